-- The faults of a face's sides over plain numbers: cells, right, left, type. Assumes nothing.
use Prim.Native.Nat.{ℕ, ◌≤◌, ◌<◌}
use native.Mathlib.Omega.{arith}
use mathlib.Core.Path.{◌≡◌, sym, ◌∙◌}
use mathlib.Core.Bool.{Bool, true, false, not, ◌&&◌, ◌||◌, or-false}
use borrow.Author.Tests.{lt-ltb, le-ltb, eq-eqb, ne_eqb, eqb-true, eqb-false}
use lib.Dec.{eqb, ltb}
use Rattle.facts.proofs.Branch.{split}
use Rattle.facts.proofs.Decides.{and_join, or_left, or_right}
use Rattle.mesh.specs.declared.Face.{Face}
use Rattle.faults.specs.declared.Frame.{Frame}
use Rattle.faults.specs.Over.{any_of}
use Rattle.faults.specs.Faults.{positions_of, is_in, interior, side_of, has_fault, any_of_kind, side_fault}

module _ (c r l z : ℕ) where
  abbrev beside : Bool
  beside =
      (ltb c r || ltb c l)
      || ((eqb r l && not (eqb r 0))
      || ((ltb 0 c && (is_in z interior && (eqb r 0 || eqb l 0))) || (ltb 0 c && (eqb r 0 && eqb l 0))))

  beside_same : r ≡ l → (r ≡ 0 → ⊥) → beside ≡ true
  beside_same e h = or_right (ltb c r || ltb c l) (or_left _ (and_join (eq-eqb r l e) (rw (ne_eqb r 0 h))))

  beside_zero : r ≡ l → r ≡ 0 → not (eqb c 0) ≡ beside
  beside_zero e h =
      let q : l ≡ 0 = sym e ∙ h in
      split (eqb c 0)
      (λ t. let k = eqb-true c 0 t in rw (t, le-ltb c r (omega arith), le-ltb c l (omega arith), eq-eqb r 0 h, eq-eqb r l e, le-ltb 0 c (omega arith)))
      (λ t.
      let k = eqb-false c 0 t in
      rw (t, le-ltb c r (omega arith), le-ltb c l (omega arith), eq-eqb r 0 h, eq-eqb r l e, lt-ltb 0 c (omega arith))
      (sym (or_right (is_in z interior && true) (eq-eqb l 0 q))))

  beside_right : c < r → beside ≡ true
  beside_right h = rw (lt-ltb c r h)

  beside_left : r ≤ c → c < l → beside ≡ true
  beside_left h k = rw (le-ltb c r h, lt-ltb c l k)

  beside_open : (r ≡ l → ⊥) → r ≤ c → l ≤ c → r ≡ 0 → is_in z interior ≡ beside
  beside_open d h k e =
      let q : l ≡ 0 → ⊥ = λ v. d (e ∙ sym v) in
      rw (le-ltb c r h, le-ltb c l k, ne_eqb r l d, eq-eqb r 0 e, ne_eqb l 0 q, lt-ltb 0 c (omega arith))
      (split (is_in z interior) (λ t. rw t) (λ t. rw t))

  beside_open_left : (r ≡ l → ⊥) → r ≤ c → l ≤ c → (r ≡ 0 → ⊥) → l ≡ 0 → is_in z interior ≡ beside
  beside_open_left d h k q e =
      rw (le-ltb c r h, le-ltb c l k, ne_eqb r l d, ne_eqb r 0 q, eq-eqb l 0 e, lt-ltb 0 c (omega arith))
      (split (is_in z interior) (λ t. rw t) (λ t. rw t))

  beside_inner : (r ≡ l → ⊥) → r ≤ c → l ≤ c → (r ≡ 0 → ⊥) → (l ≡ 0 → ⊥) → false ≡ beside
  beside_inner d h k p q =
      rw (le-ltb c r h, le-ltb c l k, ne_eqb r l d, ne_eqb r 0 p, ne_eqb l 0 q, lt-ltb 0 c (omega arith))
      (split (is_in z interior) (λ t. rw t) (λ t. rw t))

module _ (n : ℕ) (frame : Frame) (face : Face) where
  side_is : beside frame.cells face.right face.left face.ztype ≡ side_fault n frame face
  unfolding side_fault any_of any_of_kind positions_of has_fault side_of
  side_is = simp or-false

  abbrev c : ℕ
  c = frame.cells

  abbrev r : ℕ
  r = face.right

  abbrev l : ℕ
  l = face.left

  -- the ways through the code
  pub sides_zero : r ≡ l → r ≡ 0 → not (eqb c 0) ≡ side_fault n frame face
  sides_zero e h = beside_zero c r l face.ztype e h ∙ side_is

  pub sides_right : c < r → true ≡ side_fault n frame face
  sides_right h = sym (beside_right c r l face.ztype h) ∙ side_is

  pub sides_left : r ≤ c → c < l → true ≡ side_fault n frame face
  sides_left h k = sym (beside_left c r l face.ztype h k) ∙ side_is

  pub sides_open_right : (r ≡ l → ⊥) → r ≤ c → l ≤ c → r ≡ 0 → is_in face.ztype interior ≡ side_fault n frame face
  sides_open_right d h k e = beside_open c r l face.ztype d h k e ∙ side_is

  pub sides_open_left : (r ≡ l → ⊥) → r ≤ c → l ≤ c → (r ≡ 0 → ⊥) → l ≡ 0 → is_in face.ztype interior ≡ side_fault n frame face
  sides_open_left d h k q e = beside_open_left c r l face.ztype d h k q e ∙ side_is

  sides_inner : (r ≡ l → ⊥) → r ≤ c → l ≤ c → (r ≡ 0 → ⊥) → (l ≡ 0 → ⊥) → false ≡ side_fault n frame face
  sides_inner d h k p q = beside_inner c r l face.ztype d h k p q ∙ side_is

  -- where both are cells
  pub sides_cells : 1 ≤ r → r ≤ c → 1 ≤ l → l ≤ c → eqb r l ≡ side_fault n frame face
  sides_cells p h q k =
      split (eqb r l)
      (λ t. rw t (sym (beside_same c r l face.ztype (eqb-true r l t) (λ z. omega arith)) ∙ side_is))
      (λ t. rw t (sides_inner (eqb-false r l t) h k (λ z. omega arith) (λ z. omega arith)))
