-- Closed cases of the functions that only our own crates call: the right answer, and what a wrong program would have answered there. Assumes nothing.
use Prim.Native.Nat.{◌+◌, ◌*◌}
use mathlib.Core.Path.{◌≡◌, refl}
use mathlib.Core.List.{[], ◌∷◌}
use Rattle.mesh.specs.declared.Face.{Face}
use Rattle.mesh.specs.Rows.{places}
use Rattle.faults.specs.declared.Frame.{Frame}
use Rattle.faults.specs.Over.{packed}
use Rattle.faults.specs.Faults.{looked_at, positions_of, wrong_count, is_in, side_of, has_fault}
use Rattle.faults.specs.Marked.{kind_marks, node_part, side_part, marks_of}

abbrev frame : Frame
frame = record { dim = 2; nodes = 3; cells = 1 }

-- its second node is its first again, and its right cell is above the last
abbrev face : Face
face = record { count = 2; nodes = 1 ∷ 1 ∷ 0 ∷ 0 ∷ []; right = 2; left = 0; ztype = 3 }

-- `marks_of`: the marks of the sides over those of the nodes
marks_of_lem : (marks_of places frame face ≡ 512 + 4096) × (node_part places frame face + 256 * side_part places frame face ≡ 512 + 256)
unfolding packed looked_at positions_of wrong_count is_in side_of has_fault kind_marks node_part side_part marks_of
marks_of_lem = (refl, refl)
