-- The faults of a face or a cell as one number, which the audit goes through. No definition that a reader of the audit needs. Assumes nothing.
use Rattle.std.specs.Prelude.{ℕ, ◌+◌, ◌*◌, ◌^◌, Bool}
use Rattle.mesh.specs.declared.Face.{Face}
use Rattle.mesh.specs.declared.Cell.{Cell}
use Rattle.faults.specs.declared.Frame.{Frame}
use Rattle.faults.specs.Over.{packed}
use Rattle.faults.specs.Faults.{positions_of, has_fault, has_cell_fault}
use Rattle.faults.specs.Sides.{one}

-- four tests as bits, the first the lowest
abbrev pub four : Bool → Bool → Bool → Bool → ℕ
four a b c d = one a + (2 * one b + (4 * one c + 8 * one d))

-- the faults of a kind: a bit for each position or side
unfoldable pub kind_marks : ℕ → Frame → Face → ℕ → ℕ
kind_marks n frame face kind = packed 2 (λ p. one (has_fault n frame face kind p)) 0 (positions_of n face kind)

-- of the nodes, kinds 1 to 3, and of the sides, kinds 4 to 7: n bits a kind
unfoldable pub node_part : ℕ → Frame → Face → ℕ
node_part n frame face = packed (2 ^ n) (kind_marks n frame face) 1 3

unfoldable pub side_part : ℕ → Frame → Face → ℕ
side_part n frame face = packed (2 ^ n) (kind_marks n frame face) 4 4

-- the faults of a face: n bits a kind, those of kind 1 the lowest
unfoldable pub marks_of : ℕ → Frame → Face → ℕ
marks_of n frame face = packed (2 ^ n) (kind_marks n frame face) 1 7

-- the faults of a cell: a bit for kind 8, above it one for kind 9
unfoldable pub cell_marks : Frame → Cell → ℕ → ℕ
cell_marks frame cell count = packed 2 (λ kind. one (has_cell_fault frame cell count kind)) 8 2
