-- The faults of a face or a cell as one number: its digits. Assumes nothing.
-- ---- the digits, from the lowest on: a of c are done
use Prim.Native.Nat.{ℕ, zero, suc, ◌+◌, ◌-◌, ◌*◌, ◌/◌, ◌%◌, ◌≤◌, ◌<◌}
use native.Mathlib.Nat.{add-mul-mod_self_left, add-mul-div_left, mod-eq_of_lt, div-eq_of_lt}
use native.Mathlib.Omega.{arith}
use mathlib.Core.Path.{◌≡◌, refl, ◌∙◌}
use mathlib.Core.List.{List, []}
use mathlib.Core.Bool.{Bool, true, false, ◌&&◌}
use borrow.Author.Tests.{ltb-true, ltb-false}
use lib.Dec.{ltb, lit≤}
use Rattle.facts.proofs.Branch.{split, differ}
use Rattle.mesh.specs.declared.Face.{Face}
use Rattle.mesh.specs.declared.Cell.{Cell}
use Rattle.faults.specs.declared.Frame.{Frame}
use Rattle.faults.specs.Over.{each, any_of, packed}
use Rattle.faults.specs.Faults.{positions_of, has_fault, any_of_kind, wrong_element, wrong_sides, has_cell_fault}
use Rattle.faults.specs.Sides.{one}
use Rattle.faults.specs.Marked.{four, kind_marks, node_part, side_part, cell_marks}
use Rattle.faults.proofs.Sides.{one_most}
use Rattle.faults.proofs.Any.{few_positions}

module _ (b : ℕ) (g : ℕ → ℕ) (i a c : ℕ) where
  more : a < c → packed b g i (c - a) ≡ g i + b * packed b g (i + 1) (c - (a + 1))
  unfolding packed
  more h = let e : c - a ≡ suc (c - (a + 1)) = omega arith in rw e

  pub packed_digit : a < c → g i < b → packed b g i (c - a) % b ≡ g i
  packed_digit h k = rw (more h) (add-mul-mod_self_left (g i) b (packed b g (i + 1) (c - (a + 1))) ∙ mod-eq_of_lt k)

  pub packed_rest : a < c → g i < b → packed b g i (c - a) / b ≡ packed b g (i + 1) (c - (a + 1))
  packed_rest h k =
      rw (more h) (add-mul-div_left (g i) (packed b g (i + 1) (c - (a + 1))) (omega arith) ∙ rw (div-eq_of_lt k) (omega arith))

  -- where something is left, not all are done
  pub packed_some : 0 < packed b g i (c - a) → a < c
  unfolding packed
  packed_some h =
      split (ltb a c) (λ t. ltb-true a c t) (λ t. let k = ltb-false a c t in let e : c - a ≡ 0 = omega arith in absurd (none (rw e at h)))
    where
      none : 0 < 0 → ⊥
      none z = omega arith

-- nothing is left: no digit is, and what goes with the digits is empty
pub packed_empty : {A : Type 0} (b : ℕ) (g : ℕ → ℕ) (f : ℕ → List A) → 0 < b → ((j : ℕ) → g j ≡ 0 → f j ≡ []) → (i n : ℕ) → packed b g i n ≡ 0 → each f i n ≡ []
unfolding packed each
packed_empty b g f p h i zero e = refl
packed_empty b g f p h i (suc n) e =
    rw (h i (omega (arith, e))) (packed_empty b g f p h (i + 1) n (last (g i) (packed b g (i + 1) n) e))
  where
    last : (x y : ℕ) → x + b * y ≡ 0 → y ≡ 0
    last x zero q = refl
    last x (suc y) q = absurd (omega (arith, q, p))

-- no test passes: no digit is left
pub packed_none : (t : ℕ → Bool) (b : ℕ) (g : ℕ → ℕ) → ((j : ℕ) → t j ≡ false → g j ≡ 0) → (i n : ℕ) → any_of t i n ≡ false → packed b g i n ≡ 0
unfolding any_of packed
packed_none t b g h i zero e = refl
packed_none t b g h i (suc n) e =
    split (t i) (λ p. differ true refl (rw p at e)) (λ p. rw (h i p, packed_none t b g h (i + 1) n (rw p at e)) (omega arith))

-- ---- four bits
pub four_small : (a b c d : Bool) → four a b c d < 16
four_small a b c d = omega (arith, one_most a, one_most b, one_most c, one_most d)

-- the first so many of four
module _ (g : ℕ → Bool) where
  pub cut : (m : ℕ) → m ≤ 4 → four (ltb 0 m && g 0) (ltb 1 m && g 1) (ltb 2 m && g 2) (ltb 3 m && g 3) ≡ packed 2 (λ p. one (g p)) 0 m
  unfolding packed
  cut zero h = refl
  cut (suc zero) h = omega arith
  cut (suc (suc zero)) h = omega arith
  cut (suc (suc (suc zero))) h = omega arith
  cut (suc (suc (suc (suc zero)))) h = omega arith
  cut (suc (suc (suc (suc (suc m))))) h = absurd (omega arith)

  cut_small : (m : ℕ) → m ≤ 4 → packed 2 (λ p. one (g p)) 0 m < 16
  cut_small m h = rw (← cut m h) (four_small (ltb 0 m && g 0) (ltb 1 m && g 1) (ltb 2 m && g 2) (ltb 3 m && g 3))

-- ---- the kinds of a face
module _ (n : ℕ) (frame : Frame) (face : Face) where
  -- no fault, no mark
  pub kind_none : (k : ℕ) → any_of_kind n frame face k ≡ false → kind_marks n frame face k ≡ 0
  unfolding any_of_kind kind_marks
  kind_none k e = packed_none (has_fault n frame face k) 2 (λ p. one (has_fault n frame face k p)) (λ p h. rw h) 0 (positions_of n face k) e

module _ (frame : Frame) (face : Face) where
  -- a kind has at most four bits
  pub kind_small : (k : ℕ) → kind_marks 4 frame face k < 16
  unfolding kind_marks
  kind_small k = cut_small (has_fault 4 frame face k) (positions_of 4 face k) (few_positions 4 face k (lit≤ tt))

  -- three kinds of the nodes, four of the sides
  pub node_part_small : node_part 4 frame face < 4096
  unfolding node_part packed
  node_part_small = omega (arith, kind_small 1, kind_small 2, kind_small 3)

  pub side_part_small : side_part 4 frame face < 65536
  unfolding side_part packed
  side_part_small = omega (arith, kind_small 4, kind_small 5, kind_small 6, kind_small 7)

-- ---- the kinds of a cell
module _ (frame : Frame) (cell : Cell) (count : ℕ) where
  -- the two tests, each with its bit
  pub cell_marks_are : {x y : ℕ} {e s : Bool} → e ≡ wrong_element frame.dim cell.element → x ≡ 1 * one e → s ≡ wrong_sides cell count → y ≡ 2 * one s
      → x + y ≡ cell_marks frame cell count
  unfolding cell_marks packed has_cell_fault
  cell_marks_are p a q b = rw (a, b, p, q) (omega arith)

  pub cell_marks_small : cell_marks frame cell count < 4
  unfolding cell_marks packed
  cell_marks_small = omega (arith, one_most (has_cell_fault frame cell count 8), one_most (has_cell_fault frame cell count 9))
