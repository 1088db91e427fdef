-- The test of a face row decides that it can be written. Over the number of places. Assumes nothing.
use Prim.Native.Nat.{ℕ, zero, suc, ◌+◌, ◌^◌, ◌≤◌}
use native.Mathlib.Omega.{arith}
use mathlib.Core.Path.{◌≡◌, refl, sym, ◌∙◌, ap, subst}
use mathlib.Core.List.{List, [], ◌∷◌, ◌++◌, head-eq_of_cons-eq, tail-eq_of_cons-eq}
use mathlib.Core.Bool.{Bool, ◌&&◌}
use lib.Dec.{eqb, leb}
use Rattle.layout.proofs.Formed.{pad_length}
use lib.ListN.{length, take, drop, get_or, replicate}
use lib.Seq.{get_or-append-add, take-append-le, length-take-le, take-append_seam, drop-append_seam, take_at}
use Rattle.facts.proofs.Decides.{Decides, by, eq_is, lt_is, le_is, and_is, and_split, and_join}
use Rattle.mesh.specs.Rows.{places}
use Rattle.layout.specs.Items.{Facet}
use Rattle.layout.specs.Rows.{pad, face_row}
use Rattle.texts.specs.Writes.{Each, Short, FacetIs, MixedIs}
use Rattle.texts.specs.Tabled.{facet_of}
use Rattle.texts.specs.Writable.{FaceAgain}
use Rattle.texts.proofs.Tests.{and_then, all_is, each_taken, each_same, each_append, each_parted}
use Rattle.texts.specs.Judged.{short_by, zero_by, all_by, count_by, face_by}

-- equal lists, piece by piece
cons_is : {a b : ℕ} {l r : List ℕ} {p q : Bool} → Decides p (a ≡ b) → Decides q (l ≡ r) → Decides (p && q) (a ∷ l ≡ b ∷ r)
cons_is x y = by (λ h i. h.0 i ∷ h.1 i, λ e. (head-eq_of_cons-eq e, tail-eq_of_cons-eq e)) (and_is x y)

-- the first c of n words, filled up with zeros, are the n words: the others are 0
pad_is : (m n c : ℕ) (l : List ℕ) → length l ≡ n → c ≤ n → n ≤ m → Decides (all_by zero_by (drop c l)) (take n (take c l ++ replicate m 0) ≡ l)
unfolding all_by
pad_is m zero zero [] e h k = (λ _. refl, λ _. refl)
pad_is m zero zero (x ∷ l) e h k = absurd (omega arith)
pad_is m zero (suc c) l e h k = absurd (omega arith)
pad_is zero (suc n) c l e h k = absurd (omega arith)
pad_is (suc m) (suc n) zero [] e h k = absurd (omega arith)
pad_is (suc m) (suc n) zero (x ∷ l) e h k =
    cons_is (λ p. sym ((eq_is x 0).0 p), λ p. (eq_is x 0).1 (sym p)) (pad_is m n zero l (omega arith) (omega arith) (omega arith))
pad_is (suc m) (suc n) (suc c) [] e h k = absurd (omega arith)
pad_is (suc m) (suc n) (suc c) (x ∷ l) e h k =
    let d = pad_is (suc m) n c l (omega arith) (omega arith) (omega arith) in
    by (λ q. ap (λ r. x ∷ r) q, λ q. tail-eq_of_cons-eq q) d

append_cancel : (a b x y : List ℕ) → length a ≡ length b → a ++ x ≡ b ++ y → (a ≡ b) × (x ≡ y)
append_cancel a b x y n e =
    (sym (take-append_seam a x) ∙ (λ i. take (n i) (e i)) ∙ take-append_seam b y, sym (drop-append_seam a x) ∙ (λ i. drop (n i) (e i)) ∙ drop-append_seam b y)

-- what the section's element asks of a face
abbrev pub FaceIs : ℕ → Facet → Type 0
FaceIs zero f = MixedIs f
FaceIs (suc e) f = FacetIs (suc e) f

face_short : (e : ℕ) (f : Facet) → e ≤ places → FaceIs e f → (length f.corners ≤ places) × Each Short f.corners × (Short f.right × Short f.left)
face_short zero f k h = (h.1, h.2.1, (h.2.2, h.2.3))
face_short (suc e) f k h = (omega (arith, h.0), h.1, (h.2, h.3))

-- a row: its count, its places, its cells and its type
module _ (t c : ℕ) (l : List ℕ) (x y u : ℕ) (n : length l ≡ places) where
  abbrev row : List ℕ
  row = c ∷ (l ++ (x ∷ y ∷ u ∷ []))

  behind : (j : ℕ) → get_or (l ++ (x ∷ y ∷ u ∷ [])) (places + j) 0 ≡ get_or (x ∷ y ∷ u ∷ []) j 0
  behind j = let z : places + j ≡ length l + j = omega arith in ap (λ (k : ℕ). get_or (l ++ (x ∷ y ∷ u ∷ [])) k 0) z ∙ get_or-append-add l (x ∷ y ∷ u ∷ []) j 0

  module _ (h : c ≤ places) where
    facet_is : facet_of row ≡ record { corners = take c l; right = x; left = y }
    facet_is = λ i. record { corners = take-append-le c l (x ∷ y ∷ u ∷ []) (omega arith) i; right = behind 0 i; left = behind 1 i }

    count_is : length (take c l) ≡ c
    count_is = length-take-le c l (omega arith)

    row_is : face_row places t (facet_of row) ≡ c ∷ (pad places 0 (take c l) ++ (x ∷ y ∷ t ∷ []))
    row_is = ap (face_row places t) facet_is ∙ ap (λ k. k ∷ (pad places 0 (take c l) ++ (x ∷ y ∷ t ∷ []))) count_is

    again_is : Decides (all_by zero_by (drop c l) && eqb u t) (FaceAgain t row)
    again_is =
        by (
          λ p. row_is ∙ (λ i. c ∷ (p.0 i ++ (x ∷ y ∷ sym p.1 i ∷ []))),
          λ e. let q = append_cancel (pad places 0 (take c l)) l (x ∷ y ∷ t ∷ []) (x ∷ y ∷ u ∷ []) (pad_length places 0 (take c l) ∙ sym n) (tail-eq_of_cons-eq (sym row_is ∙ e)) in
              (q.0, sym (head-eq_of_cons-eq (tail-eq_of_cons-eq (tail-eq_of_cons-eq q.1)))),
        )
        (and_is (pad_is places places c l n h (omega arith)) (eq_is u t))

  -- with words of eight digits nothing else is asked
  module _ (short : Each Short l) (sx : Short x) (sy : Short y) where
    pub face_is : (e : ℕ) → e ≤ places → Decides (count_by e c && (all_by zero_by (drop c l) && eqb u t)) (FaceAgain t row × FaceIs e (facet_of row))
    face_is zero k = (
      λ p.
          let q = and_split (leb 2 c && leb c places) _ p in
          let r = (and_is (le_is 2 c) (le_is c places)).0 q.0 in
          let z = count_is r.1 in
          ((again_is r.1).0 q.1, subst MixedIs (sym (facet_is r.1)) (omega (arith, z), omega (arith, z), (refl, each_taken Short c l short, sx, sy))),
      λ p.
          let z : length (facet_of row).corners ≡ c = head-eq_of_cons-eq p.0 in
          let r : (2 ≤ c) × (c ≤ places) = (omega (arith, p.1.0), omega (arith, p.1.1)) in
          and_join ((and_is (le_is 2 c) (le_is c places)).1 r) ((again_is r.1).1 p.0),
    )
    face_is (suc e) k = (
      λ p.
          let q = and_split (eqb c (suc e)) _ p in
          let r = (eq_is c (suc e)).0 q.0 in
          let g : c ≤ places = omega arith in
          ((again_is g).0 q.1, subst (FacetIs (suc e)) (sym (facet_is g)) (count_is g ∙ r, each_taken Short c l short, sx, sy)),
      λ p.
          let z : length (facet_of row).corners ≡ c = head-eq_of_cons-eq p.0 in
          let r : c ≡ suc e = sym z ∙ p.1.0 in
          let g : c ≤ places = omega arith in
          and_join ((eq_is c (suc e)).1 r) ((again_is g).1 p.0),
    )

  -- a row that is its own item's has no long word either
  all_short : (e : ℕ) → e ≤ places → Short t → FaceAgain t row × FaceIs e (facet_of row) → Each Short row
  all_short e k s p =
      let f = facet_of row in
      let z = face_short e f k p.1 in
      subst (Each Short) p.0 (
        omega (arith, z.0),
        each_append Short (pad places 0 f.corners) (f.right ∷ f.left ∷ t ∷ []) (z.2.0, (z.2.1, (s, tt)))
            (each_taken Short places (f.corners ++ replicate places 0) (each_append Short f.corners (replicate places 0) (each_same Short places (omega arith)) z.1)),
      )

  -- the test, as it reads the row
  pub face_by_lem : (e : ℕ) → e ≤ places → Short t → Decides (face_by e t row) (FaceAgain t row × FaceIs e (facet_of row))
  unfolding face_by
  face_by_lem e k s =
      by (λ p. p.1, λ p. (all_short e k s p, p))
      (and_then (all_is short_by Short (λ n. lt_is n (16 ^ 8)) row) (λ a.
      let b = each_parted Short l (x ∷ y ∷ u ∷ []) a.1 in
      rw (take_at l (x ∷ y ∷ u ∷ []) places n, behind 2) (face_is b.0 b.1.0 b.1.1.0 e k)))
