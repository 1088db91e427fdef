-- Closed cases of the functions that only our own crates call: the right answer, and what a wrong program would have answered there. Assumes nothing.
use Prim.Native.Nat.{ℕ, ◌+◌, ◌*◌}
use mathlib.Core.Path.{◌≡◌, refl}
use mathlib.Core.List.{[], ◌∷◌}
use mathlib.Core.Bool.{true, false}
use lib.Dec.{eqb, ltb}
use Rattle.mesh.specs.declared.Face.{Face}
use Rattle.mesh.specs.Rows.{places}
use Rattle.faults.specs.declared.Frame.{Frame}
use Rattle.faults.specs.Over.{any_of, packed}
use Rattle.faults.specs.Faults.{positions_of, is_in, side_of, has_fault, any_of_kind, side_fault}
use Rattle.faults.specs.Sides.{one}
use Rattle.faults.specs.Marked.{kind_marks, side_part}

-- in a flat mesh of three nodes and so many cells
abbrev frame : ℕ → Frame
frame cells = record { dim = 2; nodes = 3; cells = cells }

-- a face inside with these cells
abbrev between : ℕ → ℕ → Face
between right left = record { count = 2; nodes = 1 ∷ 2 ∷ 0 ∷ 0 ∷ []; right = right; left = left; ztype = 2 }

-- `side_part`: the left side judged by the right cell
side_part_lem : (side_part places (frame 4) (between 5 1) ≡ 1) × (one (ltb 4 (between 5 1).right) + 2 * one (ltb 4 (between 5 1).right) ≡ 3)
unfolding packed positions_of is_in side_of has_fault kind_marks side_part
side_part_lem = (refl, refl)

-- `any_side_fault`: two sides of 0 taken for the same cell
any_side_fault : (side_fault places (frame 0) (between 0 0) ≡ false) × (eqb (between 0 0).right (between 0 0).left ≡ true)
unfolding any_of positions_of is_in side_of has_fault any_of_kind side_fault
any_side_fault = (refl, refl)
