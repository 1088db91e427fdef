-- Closed cases of the functions that only our own crates call: the right answer, and what a wrong program would have answered there. Assumes nothing.
use Prim.Native.Nat.{ℕ, ◌+◌, ◌*◌}
use mathlib.Core.Path.{◌≡◌, refl, ◌∙◌}
use mathlib.Core.Bool.{true, false}
use Rattle.mesh.specs.declared.Cell.{Cell}
use Rattle.faults.specs.declared.Frame.{Frame}
use Rattle.faults.specs.Over.{packed}
use Rattle.faults.specs.Faults.{is_in, wrong_element, wrong_sides, has_cell_fault, any_cell_fault}
use Rattle.faults.specs.Sides.{one}
use Rattle.faults.specs.Marked.{cell_marks}
use Rattle.faults.proofs.bits.bit_if.Reads as bits

abbrev flat : Frame
flat = record { dim = 2; nodes = 4; cells = 1 }

abbrev triangle : Cell
triangle = record { element = 1; ztype = 32 }

abbrev tetrahedron : Cell
tetrahedron = record { element = 2; ztype = 32 }

-- `cell_marks`: a wrong number of sides marked as a wrong element
cell_marks_lem : (cell_marks flat triangle 4 ≡ 2) × (one (has_cell_fault flat triangle 4 8) + one (has_cell_fault flat triangle 4 9) ≡ 1)
unfolding packed is_in wrong_element has_cell_fault cell_marks
cell_marks_lem = (refl, refl)

-- `any_cell_fault`: a wrong element no fault where the sides are as many as it has
any_cell_fault_lem : (any_cell_fault 2 tetrahedron 4 ≡ true) × (wrong_sides tetrahedron 4 ≡ false)
unfolding is_in wrong_element any_cell_fault
any_cell_fault_lem = (refl, refl)

-- `bit_if`: always the lowest bit
bit_if :
    ((κ : _) (a : _) (r : _) (x : _) → bits.Post κ a r x → a.0 ≡ true → ◌≡◌ {A = ℕ} a.1.0 4 → ◌≡◌ {A = ℕ} r 4)
    × (1 * one true ≡ 1)
bit_if = (λ κ a r x p passed four. p ∙ rw (passed, four), refl)
