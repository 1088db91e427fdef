-- The tests of cell rows and face rows decide that they can be written. Assumes nothing.
use Prim.Native.Nat.{ℕ, zero, suc, ◌+◌, ◌*◌, ◌≤◌}
use native.Mathlib.Omega.{arith}
use mathlib.Core.Path.{◌≡◌, refl, sym, ◌∙◌, ap, subst}
use mathlib.Core.Logic.{◌↔◌}
use mathlib.Core.List.{List, [], ◌∷◌, ◌++◌, map, head-eq_of_cons-eq, tail-eq_of_cons-eq}
use lib.ListN.{length, take, drop, replicate, length-drop, take-append-drop}
use lib.Seq.{length-take-le}
use Rattle.facts.proofs.Decides.{Decides, by, eq_is, le_is, and_is}
use Rattle.mesh.specs.Rows.{places, face_words, cell_words}
use Rattle.layout.specs.Items.{cell, face, given, Facet, elements, facets}
use Rattle.texts.specs.Writes.{Each, Short, ElementIs, FacetIs, MixedIs, BodyWrites, mixed_cells, same_cells, mixed_faces, same_faces}
use Rattle.texts.specs.Tabled.{rows_of, facet_of, element_of}
use Rattle.texts.specs.Writable.{FaceAgain, CellAgain}
use Rattle.texts.specs.Judged.{all_by, face_by, cell_element_by, cell_by}
use Rattle.texts.proofs.Tests.{each_is, each_map, each_same}
use Rattle.texts.proofs.FaceTest.{FaceIs, face_by_lem}

-- ---- rows of a table
module _ {A : Type 0} (w : ℕ) where
  pub rows_many : (n : ℕ) (l : List A) → length (rows_of w n l) ≡ n
  unfolding rows_of
  rows_many zero l = refl
  rows_many (suc n) l = ap suc (rows_many n (drop w l))

  pub rows_long : (n : ℕ) (l : List A) → n * w ≤ length l → Each (λ r. length r ≡ w) (rows_of w n l)
  unfolding rows_of
  rows_long zero l h = tt
  rows_long (suc n) l h =
      let z : suc n * w ≡ w + n * w = suc_times n w in
      (length-take-le w l (omega arith), rows_long n (drop w l) (omega (arith, length-drop w l)))
    where
      suc_times : (n w : ℕ) → suc n * w ≡ w + n * w
      suc_times n w = omega arith

map_many : {A B : Type 0} (f : A → B) (l : List A) → length (map f l) ≡ length l
map_many f [] = refl
map_many f (x ∷ l) = ap suc (map_many f l)

-- rows that say things: each row keeps P and each thing Q
each_both : {A B : Type 0} (f : A → B) (P : A → Type 0) (Q : B → Type 0) (l : List A) → Each (λ x. P x × Q (f x)) l ↔ (Each P l × Each Q (map f l))
each_both f P Q [] = (λ h. (tt, tt), λ h. tt)
each_both f P Q (x ∷ l) = let r = each_both f P Q l in (λ h. let s = r.0 h.1 in ((h.0.0, s.0), (h.0.1, s.1)), λ h. ((h.0.0, h.1.0), r.1 (h.0.1, h.1.1)))

-- ---- faces
faces_write : (e n : ℕ) (fs : List Facet) → length fs ≡ n → Each (FaceIs e) fs ↔ BodyWrites face n (given e) (facets fs)
faces_write zero n fs z = (λ h. subst (λ k. BodyWrites face k (given 0) (facets fs)) z (mixed_faces h), from)
  where
    from : {n : ℕ} {fs : List Facet} → BodyWrites face n (given 0) (facets fs) → Each MixedIs fs
    from (mixed_faces h) = h
faces_write (suc e) n fs z = (λ h. subst (λ k. BodyWrites face k (given (suc e)) (facets fs)) z (same_faces h), from e)
  where
    from : (e : ℕ) {n : ℕ} {fs : List Facet} → BodyWrites face n (given (suc e)) (facets fs) → Each (FacetIs (suc e)) fs
    from e (same_faces h) = h

module _ (e t : ℕ) (few : e ≤ places) (short : Short t) where
  abbrev FaceRow : List ℕ → Type 0
  FaceRow r = FaceAgain t r × FaceIs e (facet_of r)

  -- the count, the places, and three words more
  face_parts : (c : ℕ) (l s : List ℕ) → length l ≡ places → length s ≡ 3 → Decides (face_by e t (c ∷ (l ++ s))) (FaceRow (c ∷ (l ++ s)))
  face_parts c l [] n k = absurd (omega arith)
  face_parts c l (x ∷ []) n k = absurd (omega arith)
  face_parts c l (x ∷ y ∷ []) n k = absurd (omega arith)
  face_parts c l (x ∷ y ∷ u ∷ []) n k = face_by_lem t c l x y u n e few short
  face_parts c l (x ∷ y ∷ u ∷ v ∷ s) n k = absurd (omega arith)

  face_row_lem : (r : List ℕ) → length r ≡ face_words places → Decides (face_by e t r) (FaceRow r)
  face_row_lem [] n = absurd (omega arith)
  face_row_lem (c ∷ q) n =
      subst (λ i. Decides (face_by e t (c ∷ i)) (FaceRow (c ∷ i))) (take-append-drop places q)
      (face_parts c (take places q) (drop places q) (length-take-le places q (omega arith)) (omega (arith, length-drop places q)))

  pub faces_is : (n : ℕ) (l : List ℕ) → n * face_words places ≤ length l
      → let rs = rows_of (face_words places) n l in
      Decides (all_by (face_by e t) rs) (Each (FaceAgain t) rs × BodyWrites face n (given e) (facets (map facet_of rs)))
  faces_is n l h =
      let rs = rows_of (face_words places) n l in
      let w = faces_write e n (map facet_of rs) (map_many facet_of rs ∙ rows_many (face_words places) n l) in
      let b = each_both facet_of (FaceAgain t) (FaceIs e) rs in
      by (λ p. let q = b.0 p in (q.0, w.0 q.1), λ p. b.1 (p.0, w.1 p.1))
      (each_is (face_by e t) FaceRow rs (each_map (λ r. length r ≡ face_words places) (λ r. Decides (face_by e t r) (FaceRow r)) face_row_lem rs (rows_long (face_words places) n l h)))

-- ---- cells
abbrev CellIs : ℕ → ℕ → Type 0
CellIs zero c = ElementIs c
CellIs (suc e) c = c ≡ suc e

cells_write : (e n : ℕ) (es : List ℕ) → length es ≡ n → Each (CellIs e) es ↔ BodyWrites cell n (given e) (elements es)
cells_write zero n es z = (λ h. subst (λ k. BodyWrites cell k (given 0) (elements es)) z (mixed_cells h), from)
  where
    from : {n : ℕ} {es : List ℕ} → BodyWrites cell n (given 0) (elements es) → Each ElementIs es
    from (mixed_cells h) = h
cells_write (suc e) n es z = (λ h. subst (λ x. BodyWrites cell n (given (suc e)) (elements x)) (sym (all_same e es h ∙ ap (λ k. replicate k (suc e)) z)) same_cells, from e)
  where
    all_same : (e : ℕ) (es : List ℕ) → Each (λ c. c ≡ suc e) es → es ≡ replicate (length es) (suc e)
    all_same e [] h = refl
    all_same e (c ∷ es) h = λ i. h.0 i ∷ all_same e es h.1 i

    from : (e : ℕ) {n : ℕ} {es : List ℕ} → BodyWrites cell n (given (suc e)) (elements es) → Each (λ c. c ≡ suc e) es
    from e (same_cells {n = n}) = each_same (λ c. c ≡ suc e) n refl

module _ (e t : ℕ) where
  element_is : (e c : ℕ) → Decides (cell_element_by e c) (CellIs e c)
  element_is zero c = and_is (le_is 1 c) (le_is c 6)
  element_is (suc e) c = eq_is c (suc e)

  abbrev CellRow : List ℕ → Type 0
  CellRow r = CellAgain t r × CellIs e (element_of r)

  cell_row : (r : List ℕ) → length r ≡ cell_words → Decides (cell_by e t r) (CellRow r)
  unfolding cell_by
  cell_row [] n = absurd (omega arith)
  cell_row (c ∷ []) n = absurd (omega arith)
  cell_row (c ∷ u ∷ []) n =
      by (λ p. (ap (λ x. c ∷ x ∷ []) (sym p.1), p.0), λ p. (p.1, sym (head-eq_of_cons-eq (tail-eq_of_cons-eq p.0)))) (and_is (element_is e c) (eq_is u t))
  cell_row (c ∷ u ∷ x ∷ r) n = absurd (omega arith)

  pub cells_is : (n : ℕ) (l : List ℕ) → n * cell_words ≤ length l
      → let rs = rows_of cell_words n l in
      Decides (all_by (cell_by e t) rs) (Each (CellAgain t) rs × BodyWrites cell n (given e) (elements (map element_of rs)))
  cells_is n l h =
      let rs = rows_of cell_words n l in
      let w = cells_write e n (map element_of rs) (map_many element_of rs ∙ rows_many cell_words n l) in
      let b = each_both element_of (CellAgain t) (CellIs e) rs in
      by (λ p. let q = b.0 p in (q.0, w.0 q.1), λ p. b.1 (p.0, w.1 p.1))
      (each_is (cell_by e t) CellRow rs (each_map (λ r. length r ≡ cell_words) (λ r. Decides (cell_by e t r) (CellRow r)) cell_row rs (rows_long cell_words n l h)))
