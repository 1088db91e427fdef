-- [01:The audit], tables and the number of sides that name a cell. To be believed: all of this file. Assumes nothing.
use Rattle.std.specs.Prelude.{ℕ, ◌+◌, ◌-◌, List, Bool, true, false, eqb}
use Rattle.mesh.specs.declared.Face.{Face}
use Rattle.mesh.specs.declared.Cell.{Cell}
use Rattle.mesh.specs.Rows.{face_at, cell_at}
use Rattle.faults.specs.declared.Frame.{Frame}
use Rattle.faults.specs.Over.{sum_over}
use Rattle.faults.specs.Faults.{side_of}

-- "It takes dimension, totals N, F, C, face and cell slices"
pub record Tables : Type 0 where
  pub dim : ℕ
  pub nodes : ℕ
  pub faces : ℕ
  pub cells : ℕ
  pub face_rows : List ℕ
  pub cell_rows : List ℕ

abbrev pub frame_of : Tables → Frame
frame_of t = record { dim = t.dim; nodes = t.nodes; cells = t.cells }

-- the face and the cell of a number; numbers start at 1
abbrev pub face_in : ℕ → Tables → ℕ → Face
face_in n t f = face_at n t.face_rows (f - 1)

abbrev pub cell_in : Tables → ℕ → Cell
cell_in t c = cell_at t.cell_rows (c - 1)

-- whether a side of a face counts for a cell: where it names the cell
unfoldable pub counted : Face → ℕ → ℕ → Bool
counted face s c = eqb (side_of face s) c

abbrev pub one : Bool → ℕ
one b = elim b [ true ↦ 1 | false ↦ 0 ]

-- "a face naming it twice counts twice"
unfoldable pub sides_naming : Face → ℕ → ℕ
sides_naming face c = one (counted face 0 c) + one (counted face 1 c)

-- "the number of face sides naming each", over the rows of faces 1 to F
unfoldable pub count_over : ℕ → List ℕ → ℕ → ℕ → ℕ
count_over n rows faces c = sum_over (λ f. sides_naming (face_at n rows (f - 1)) c) 1 faces

abbrev pub count_of : ℕ → Tables → ℕ → ℕ
count_of n t c = count_over n t.face_rows t.faces c
