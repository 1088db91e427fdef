-- Rows stored as they are read: what each of the storing steps leaves, and what the loop keeps. Assumes nothing.
use Prim.Native.Nat.{ℕ, suc, ◌+◌, ◌-◌, ◌*◌, ◌^◌, ◌≤◌, ◌<◌}
use native.Mathlib.Omega.{arith}
use native.Mathlib.Nat.{add-mul}
use mathlib.Core.Path.{◌≡◌, refl, sym, ◌∙◌, ap, subst}
use mathlib.Core.List.{List, [], ◌∷◌, ◌++◌}
use borrow.Author.Tests.{ltb-false}
use lib.Dec.{ltb}
use lib.ListN.{length, set, replicate, length-append}
use lib.Seq.{sets}
use Rattle.facts.proofs.Branch.{either}
use Rattle.mesh.specs.Rows.{places}
use Rattle.layout.specs.Items.{Facet}
use Rattle.layout.specs.Rows.{joined, pad, face_row}
use Rattle.layout.proofs.Formed.{pad_length}
use Rattle.facts.specs.declared.Taken.{Taken}
use Rattle.quick.specs.Quick.{known_of}
use Rattle.again.specs.Again.{many}
use Rattle.again.proofs.Puts.{sets_behind, pad_is}
use Rattle.again.proofs.Many.{Going, many_length, going_more, row_end}
use Rattle.rows.specs.declared.row.Form.{Form}
use Rattle.rows.specs.Words.{words_at, Puts}
use Rattle.rows.specs.Rows.{corners_of, facet_at, facing_at, mixed_at, element_at, row_at, width_of, rows_at, same_rows}
use Rattle.rows.proofs.Wording.{none_set}

-- ---- one row
pub corners_few : (m n : ℕ) → m ≡ corners_of n → m ≤ places
unfolding corners_of
corners_few m n e = either (λ y. m ≡ y → m ≤ places) (ltb places n) (λ _ q. omega arith) (λ p q. omega (arith, ltb-false places n p)) e

row_is : (n t k r l : ℕ) (ns old : List ℕ) → n ≤ places → length ns ≡ n
    → set (sets (sets (sets (set old k n) (k + 1) ns) (k + 1 + n) (replicate (4 - n) 0)) (k + 5) (r ∷ l ∷ [])) (k + 7) t
    ≡ sets old k (face_row places t (record { corners = ns; right = r; left = l }))
row_is n t k r l ns old h e =
    let a : sets (sets (set old k n) (k + 1) ns) (k + 1 + n) (replicate (4 - n) 0) ≡ sets (set old k n) (k + 1) (pad places 0 ns) =
    sets_behind ns (replicate (4 - n) 0) (set old k n) (k + 1) (k + 1 + n) (ap (λ m. k + 1 + m) (sym e))
    ∙ ap (λ m. sets (set old k n) (k + 1) (ns ++ replicate (4 - m) 0)) (sym e) ∙ ap (sets (set old k n) (k + 1)) (sym (pad_is places 0 ns (omega arith))) in
    let c : k + 7 ≡ suc (suc (k + 5)) = omega arith in
    let d : k + 1 ≡ suc k = omega arith in
    ap (λ o. set (sets o (k + 5) (r ∷ l ∷ [])) (k + 7) t) a
    ∙ ap (λ i. set (sets (sets (set old k n) (k + 1) (pad places 0 ns)) (k + 5) (r ∷ l ∷ [])) i t) c
    ∙ sets_behind (pad places 0 ns) (r ∷ l ∷ t ∷ []) (set old k n) (k + 1) (k + 5) (omega (arith, pad_length places 0 ns))
    ∙ ap (λ i. sets (set old k n) i (pad places 0 ns ++ (r ∷ l ∷ t ∷ []))) d
    ∙ ap (λ m. sets (set old k m) (suc k) (pad places 0 ns ++ (r ∷ l ∷ t ∷ []))) (sym e)

-- a row of two words
pub two_put : (a t k : ℕ) (old mid : List ℕ) {new : List ℕ} → mid ≡ set old k a → new ≡ set mid (k + 1) t → new ≡ sets old k (a ∷ t ∷ [])
two_put a t k old mid p q = let z : k + 1 ≡ suc k = omega arith in q ∙ ap (λ i. set mid i t) z ∙ ap (λ o. set o (suc k) t) p

pub same_put : (e t n k : ℕ) (old : List ℕ) {new : List ℕ} → new ≡ sets old k (joined (replicate n (e ∷ t ∷ []))) → new ≡ sets old k (same_rows e t n)
unfolding same_rows
same_put e t n k old h = h

module _ (s : List ℕ) (at t k : ℕ) (old : List ℕ) where
  pub element_put : (v : Taken ℕ) (mid : List ℕ) {new : List ℕ} → v ≡ known_of s at → mid ≡ set old k v.value → new ≡ set mid (k + 1) t → Puts (element_at s t at) k old new v.next
  element_put v mid e p q = (two_put v.value t k old mid p q ∙ ap (λ (y : Taken ℕ). sets old k (y.value ∷ t ∷ [])) e, ap (λ (y : Taken ℕ). y.next) e)

  pub facing_put : (n c to : ℕ) (a b d e : List ℕ) {new : List ℕ} → n ≤ places → a ≡ set old k n → Puts (words_at s n at) (k + 1) a b c
      → d ≡ sets b (k + 1 + n) (replicate (4 - n) 0) → Puts (words_at s 2 c) (k + 1 + 4) d e to → new ≡ set e (k + 8 - 1) t → Puts (facing_at s n t at) k old new to
  unfolding many
  facing_put n c to a b d e l p h q g w =
      let ns = (words_at s n at).thing in
      let cells : k + 1 + 4 ≡ k + 5 = omega arith in
      let last : k + 8 - 1 ≡ k + 7 = omega arith in
      let there : d ≡ sets (sets (set old k n) (k + 1) ns) (k + 1 + n) (replicate (4 - n) 0) = q ∙ ap (λ o. sets o (k + 1 + n) (replicate (4 - n) 0)) (h.0 ∙ ap (λ o. sets o (k + 1) ns) p) in
      let two : e ≡ sets d (k + 5) ((facet_at s n at).right ∷ (facet_at s n at).left ∷ []) = g.0 ∙ ap (λ j. sets d j (words_at s 2 c).thing) cells ∙ ap (λ i. sets d (k + 5) (words_at s 2 i).thing) h.1 in (
        w ∙ ap (λ j. set e j t) last ∙ ap (λ o. set o (k + 7) t) (two ∙ ap (λ o. sets o (k + 5) ((facet_at s n at).right ∷ (facet_at s n at).left ∷ [])) there)
            ∙ row_is n t k (facet_at s n at).right (facet_at s n at).left ns old l (many_length _ n at),
        g.1 ∙ ap (λ i. (words_at s 2 i).next) h.1,
      )

  pub mixed_put : (v : Taken ℕ) (n to : ℕ) {new : List ℕ} → v ≡ known_of s at → n ≡ corners_of v.value → Puts (facing_at s n t v.next) k old new to → Puts (mixed_at s t at) k old new to
  mixed_put v n to {new} e q h =
      subst (λ (y : Taken ℕ). Puts (facing_at s (corners_of y.value) t y.next) k old new to) e (subst (λ m. Puts (facing_at s m t v.next) k old new to) q h)

  pub row_by : (form other : Form) (to : ℕ) {new : List ℕ} → form ≡ other → Puts (row_at s other t at) k old new to → Puts (row_at s form t at) k old new to
  row_by form other to {new} e h = subst (λ f. Puts (row_at s f t at) k old new to) (sym e) h

  pub facing_by : (m n to : ℕ) {new : List ℕ} → m ≡ corners_of n → Puts (facing_at s m t at) k old new to → Puts (row_at s (Form.Facing n) t at) k old new to
  facing_by m n to {new} e h = subst (λ y. Puts (facing_at s y t at) k old new to) e h

-- ---- all rows
face_width : (t : ℕ) (f : Facet) → length (face_row places t f) ≡ 8
face_width t f = rw length-append (omega (arith, pad_length places 0 f.corners))

row_width : (s : List ℕ) (t : ℕ) (form : Form) (at : ℕ) → length (row_at s form t at).thing ≡ width_of form
row_width s t (Form.Facing n) at = face_width t (facet_at s (corners_of n) at)
row_width s t Form.Mixed at = face_width t (facet_at s (corners_of (known_of s at).value) (known_of s at).next)
row_width s t Form.Element at = refl

-- the place of a row stays far below what a number holds
pub row_room : (form : Form) (w j n : ℕ) → w ≡ width_of form → j < n → n < 2 ^ 32 → j * w + w ≤ 2 ^ 35
row_room (Form.Facing m) w j n e h l = subst (λ y. j * y + y ≤ 2 ^ 35) (sym e) (omega arith)
row_room Form.Mixed w j n e h l = subst (λ y. j * y + y ≤ 2 ^ 35) (sym e) (omega arith)
row_room Form.Element w j n e h l = subst (λ y. j * y + y ≤ 2 ^ 35) (sym e) (omega arith)

pub next_place : (i j k w : ℕ) → i ≡ k + j * w → i + w ≡ k + (j + 1) * w
next_place i j k w e = omega (arith, e, add-mul j 1 w)

abbrev pub Filing : List ℕ → Form → ℕ → ℕ → ℕ → ℕ → List ℕ → ℕ → ℕ → ℕ → List ℕ → Type 0
Filing s form t at n k old c left i cur = Going sets (λ p. row_at s form t p) (λ row. row) at n k old c left i cur

module _ (s : List ℕ) (form : Form) (t at n k : ℕ) (old : List ℕ) where
  module _ (c j i : ℕ) (cur : List ℕ) (g : Filing s form t at n k old c (n - j) i cur) where
    pub filing_more : (c' w : ℕ) (cur' : List ℕ) → w ≡ width_of form → j < n → Puts (row_at s form t c) i cur cur' c' → Filing s form t at n k old c' (n - (j + 1)) (i + w) cur'
    filing_more c' w cur' e l h =
        going_more sets none_set sets_behind (λ p. row_at s form t p) (λ row. row) at n k old c (n - j) i cur g c' (n - (j + 1)) (i + w) cur' (omega (arith, l)) (omega (arith, row_width s t form c, e)) h.1 h.0

    pub filing_end : n ≤ j → cur ≡ sets old k (rows_at s form t n at)
    unfolding rows_at
    filing_end l = row_end sets none_set sets_behind (λ p. row_at s form t p) at n k old c (n - j) i cur g (omega (arith, l))
