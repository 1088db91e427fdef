-- What a laid-out section's body says can be written again, and the tables' rows say it. Assumes nothing.
use Prim.Native.Nat.{ℕ, zero, suc, ◌+◌, ◌^◌, ◌≤◌, ◌<◌}
use native.Mathlib.Nat.{pow-zero, pow-le-pow_right}
use native.Mathlib.Omega.{arith}
use mathlib.Core.Path.{◌≡◌, refl, ◌∙◌, ap, subst}
use mathlib.Core.List.{List, [], ◌∷◌, ◌++◌, map, append-nil, append_assoc}
use lib.Dec.{lit<}
use lib.IntN.{ℤ, pos}
use lib.ListN.{length, take, replicate}
use lib.Seq.{take-take, take-append-le, take-append_seam, take_at, drop_at}
use Rattle.tokens.specs.Listed.{Tok}
use Rattle.digits.specs.Digits.{Figures, worth}
use Rattle.digits.proofs.Digits.{digits_in_exact, digits_in_below}
use Rattle.numbers.proofs.Wholes.{whole_of_exactly}
use Rattle.mesh.specs.Rows.{places, node_words}
use Rattle.layout.specs.Items.{Kind, node, cell, face, Perhaps, given, Pair, Facet, Body, points, elements, facets}
use Rattle.layout.specs.Grammar.{Hex, number, Coordinate, coordinate, Rows, no_rows, a_row, Enclosed, enclosed, Element, element, Facing, facing, Mixed, mixed, BodyOf, node_body, cell_mixed, cell_same, face_mixed, face_same}
use Rattle.layout.specs.Rows.{pad, joined, face_row, element_in}
use Rattle.layout.specs.Keeps.{FifthOf}
use Rattle.layout.proofs.Bodies.{rows_length}
use Rattle.layout.proofs.Formed.{Ruled, pad_length}
use Rattle.layout.proofs.FaceRows.{same_few, behind_at}
use Rattle.texts.specs.Writes.{Each, Short, CanonicalPair, Point, ElementIs, FacetIs, MixedIs, BodyWrites, points_write, mixed_cells, same_cells, mixed_faces, same_faces}
use Rattle.texts.specs.Tabled.{rows_of, facet_of, element_of, point_of, points_of, fifth_of}
use Rattle.texts.specs.Writable.{FaceAgain, CellAgain, NodeAgain}

-- ---- words that were read can be written
worth_below : (base : ℕ) (w : List ℕ) → Figures base w → worth base 0 w < base ^ length w
worth_below base w f =
    let e = rw append-nil at (digits_in_exact base w [] 0 0 f tt) in
    let b = digits_in_below base w 0 0 (rw pow-zero (lit< tt)) in
    let z : 0 + length w ≡ length w = omega arith in
    rw z at (rw e at b)

pub hex_short : {ts us : List Tok} {n : ℕ} → Hex ts n us → Short n
hex_short (number {w = w} {v = v} e) =
    let h = (whole_of_exactly 16 8 w v).0 e in
    omega (arith, h.value, worth_below 16 w h.figures, pow-le-pow_right {n = 16} (lit< tt) {i = length w} {j = 8} h.high)

module _ {A : Type 0} {R : List Tok → A → List Tok → Type 0} (P : A → Type 0) (each : (ts us : List Tok) (x : A) → R ts x us → P x) where
  rows_each : {n : ℕ} {ts us : List Tok} {xs : List A} → Rows R n ts xs us → Each P xs
  rows_each no_rows = tt
  rows_each (a_row r rs) = (each _ _ _ r, rows_each rs)

  enclosed_each : {n : ℕ} {ts us : List Tok} {xs : List A} → Enclosed R n ts xs us → Each P xs
  enclosed_each (enclosed l r q) = rows_each r

enclosed_length : {A : Type 0} {R : List Tok → A → List Tok → Type 0} {n : ℕ} {ts us : List Tok} {xs : List A} → Enclosed R n ts xs us → length xs ≡ n
enclosed_length (enclosed l r q) = rows_length r

pair_canonical : {ts us : List Tok} {p : Pair} → Coordinate ts p us → CanonicalPair p
pair_canonical (coordinate m) = m.canonical

point_is : (d : ℕ) {ts us : List Tok} {p : List Pair} → Rows Coordinate d ts p us → Point d p
point_is d r = (rows_length r, rows_each CanonicalPair (λ _ _ _ c. pair_canonical c) r)

element_is : {ts us : List Tok} {e : ℕ} → Element ts e us → ElementIs e
element_is (element h l m) = (l, m)

facet_is : (n : ℕ) {ts us : List Tok} {f : Facet} → Facing n ts f us → FacetIs n f
facet_is n (facing r a b) = (rows_length r, rows_each Short (λ _ _ _ c. hex_short c) r, hex_short a, hex_short b)

mixed_is : {ts us : List Tok} {f : Facet} → Mixed ts f us → MixedIs f
mixed_is (mixed {n} h l m r) =
    let f = facet_is n r in
    (omega (arith, f.0), omega (arith, f.0), (refl, f.1, f.2, f.3))

few_facets : {c : ℕ} → c ≤ places → (fs : List Facet) → Each (FacetIs c) fs → Each (λ f. length f.corners ≤ places) fs
few_facets l [] h = tt
few_facets l (f ∷ fs) h = (omega (arith, h.0.0), few_facets l fs h.1)

few_mixed : (fs : List Facet) → Each MixedIs fs → Each (λ f. length f.corners ≤ places) fs
few_mixed [] h = tt
few_mixed (f ∷ fs) h = (h.0.1, few_mixed fs h.1)

same_writes : (n e : ℕ) → 0 < e → BodyWrites cell n (given e) (elements (replicate n e))
same_writes n zero h = absurd (omega arith)
same_writes n (suc e) h = same_cells

plain_writes : (n c : ℕ) (fs : List Facet) → 0 < c → length fs ≡ n → Each (FacetIs c) fs → BodyWrites face n (given c) (facets fs)
plain_writes n zero fs h e w = absurd (omega arith)
plain_writes n (suc c) fs h e w = subst (λ m. BodyWrites face m (given (suc c)) (facets fs)) e (same_faces w)

-- a body that was read can be written, under the fifth word that its zone record and the dimension give
pub body_writes : (d : ℕ) {k : Kind} {n : ℕ} {v : Perhaps} {ts us : List Tok} {b : Body} → BodyOf k n v ts b us → BodyWrites k n (given (fifth_of k d (element_in k v))) b
body_writes d (node_body {d = w} {v = v} {ps = ps} p) =
    subst (λ m. BodyWrites node m (given d) (points w ps)) (enclosed_length p) (points_write (enclosed_each (Point w) (λ _ _ _ r. point_is w r) p))
body_writes d (cell_mixed {es = es} p) = subst (λ m. BodyWrites cell m (given 0) (elements es)) (enclosed_length p) (mixed_cells (enclosed_each ElementIs (λ _ _ _ r. element_is r) p))
body_writes d (cell_same {n} {e} h) = same_writes n e h
body_writes d (face_mixed {fs = fs} p) = subst (λ m. BodyWrites face m (given 0) (facets fs)) (enclosed_length p) (mixed_faces (enclosed_each MixedIs (λ _ _ _ r. mixed_is r) p))
body_writes d (face_same {n} {c} {fs} h p) = plain_writes n c fs h (enclosed_length p) (enclosed_each (FacetIs c) (λ _ _ _ r. facet_is c r) p)

pub body_few : {n : ℕ} {v : Perhaps} {ts us : List Tok} {fs : List Facet} → FifthOf face v → BodyOf face n v ts (facets fs) us → Each (λ f. length f.corners ≤ places) fs
body_few m (face_mixed {fs = fs} p) = few_mixed fs (enclosed_each MixedIs (λ _ _ _ r. mixed_is r) p)
body_few m (face_same {c = c} {fs = fs} h p) = few_facets (same_few c m) fs (enclosed_each (FacetIs c) (λ _ _ _ r. facet_is c r) p)

-- ---- rows joined, and parted again
pub rows_parted : {A : Type 0} (w : ℕ) (rs : List (List A)) (rest : List A) → Ruled w rs → rows_of w (length rs) (joined rs ++ rest) ≡ rs
unfolding rows_of
rows_parted w [] rest h = refl
rows_parted w (r ∷ rs) rest h =
    rw (append_assoc r (joined rs) rest, take_at r (joined rs ++ rest) w h.0, drop_at r (joined rs ++ rest) w h.0) (ap (λ x. r ∷ x) (rows_parted w rs rest h.1))

-- ---- a row says what it was made of
facet_back : (t : ℕ) (f : Facet) → length f.corners ≤ places → facet_of (face_row places t f) ≡ f
facet_back t f h = λ i. record { corners = corners i; right = behind_at places t f 0 i; left = behind_at places t f 1 i }
  where
    corners : take (length f.corners) (pad places 0 f.corners ++ (f.right ∷ f.left ∷ t ∷ [])) ≡ f.corners
    corners =
        take-append-le (length f.corners) (pad places 0 f.corners) (f.right ∷ f.left ∷ t ∷ []) (omega (arith, pad_length places 0 f.corners))
        ∙ take-take (length f.corners) places (f.corners ++ replicate places 0) h ∙ take-append_seam f.corners (replicate places 0)

pub facets_again : (t : ℕ) (fs : List Facet) → Each (λ f. length f.corners ≤ places) fs
    → (map facet_of (map (face_row places t) fs) ≡ fs) × Each (FaceAgain t) (map (face_row places t) fs)
facets_again t [] h = (refl, tt)
facets_again t (f ∷ fs) h =
    let e = facet_back t f h.0 in
    let r = facets_again t fs h.1 in
    (λ i. e i ∷ r.0 i, (ap (face_row places t) e, r.1))

pub cells_again : (t : ℕ) (es : List ℕ) → (map element_of (map (λ e. e ∷ t ∷ []) es) ≡ es) × Each (CellAgain t) (map (λ e. e ∷ t ∷ []) es)
cells_again t [] = (refl, tt)
cells_again t (e ∷ es) = let r = cells_again t es in (ap (λ x. e ∷ x) r.0, (refl, r.1))

abbrev manted : List Pair → List ℤ
manted p = pad node_words (pos 0) (map (λ (x : Pair). x.mantissa) p)

abbrev tensed : List Pair → List ℤ
tensed p = pad node_words (pos 0) (map (λ (x : Pair). x.exponent) p)

point_back : (d : ℕ) (p : List Pair) → length p ≡ d → d ≤ node_words → point_of d (manted p) (tensed p) ≡ p
point_back d p e h = rw (← e) (by p (omega arith))
  where
    by : (p : List Pair) → length p ≤ node_words → point_of (length p) (manted p) (tensed p) ≡ p
    by [] h = refl
    by (x ∷ []) h = refl
    by (x ∷ y ∷ []) h = refl
    by (x ∷ y ∷ z ∷ []) h = refl
    by (x ∷ y ∷ z ∷ u ∷ p) h = absurd (omega arith)

pub points_again : (d : ℕ) → d ≤ node_words → (ps : List (List Pair)) → Each (Point d) ps
    → (points_of d (map manted ps) (map tensed ps) ≡ ps) × NodeAgain d (map manted ps) (map tensed ps)
points_again d l [] h = (refl, tt)
points_again d l (p ∷ ps) h =
    let e = point_back d p h.0.0 l in
    let r = points_again d l ps h.1 in
    (λ i. e i ∷ r.0 i, (ap manted e, ap tensed e, r.1))

pub body_points : {n w : ℕ} {v : Perhaps} {ts us : List Tok} {ps : List (List Pair)} → BodyOf node n v ts (points w ps) us → Each (Point w) ps
body_points (node_body {d = w} p) = enclosed_each (Point w) (λ _ _ _ r. point_is w r) p
