-- Closed cases of the functions that only our own crates call: the right answer, and what a wrong program would have answered there. Assumes nothing.
use Prim.Native.Nat.{ℕ, ◌+◌, ◌*◌}
use mathlib.Core.Path.{◌≡◌, refl}
use mathlib.Core.List.{[], ◌∷◌}
use mathlib.Core.Bool.{true, false}
use Rattle.mesh.specs.declared.Face.{Face}
use Rattle.mesh.specs.Rows.{places}
use Rattle.faults.specs.declared.Frame.{Frame}
use Rattle.faults.specs.Over.{any_of, packed}
use Rattle.faults.specs.Faults.{looked_at, positions_of, wrong_count, is_in, has_fault, any_of_kind, node_fault}
use Rattle.faults.specs.Marked.{kind_marks, node_part}

-- in a mesh of this dimension and three nodes
abbrev frame : ℕ → Frame
frame dim = record { dim = dim; nodes = 3; cells = 1 }

-- its second node is above the last, its third is its first again
abbrev face : Face
face = record { count = 3; nodes = 1 ∷ 9 ∷ 1 ∷ 0 ∷ []; right = 1; left = 0; ztype = 3 }

abbrev marks : ℕ → ℕ
marks kind = kind_marks places (frame 3) face kind

-- `node_part`: kinds 2 and 3 exchanged
node_part_lem : (node_part places (frame 3) face ≡ 16 * 2 + 256 * 4) × (marks 1 + (16 * marks 3 + 256 * marks 2) ≡ 16 * 4 + 256 * 2)
unfolding packed looked_at positions_of wrong_count is_in has_fault kind_marks node_part
node_part_lem = (refl, refl)

abbrev edge : Face
edge = record { count = 2; nodes = 1 ∷ 2 ∷ 0 ∷ 0 ∷ []; right = 1; left = 0; ztype = 3 }

-- `any_node_fault`: three nodes asked of a flat face
any_node_fault : (node_fault places (frame 2) edge ≡ false) × (node_fault places (frame 3) edge ≡ true)
unfolding any_of looked_at positions_of wrong_count is_in has_fault any_of_kind node_fault
any_node_fault = (refl, refl)
