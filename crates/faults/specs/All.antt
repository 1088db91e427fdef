-- [01:The audit], the list of all faults. Over the number n of node places. Assumes nothing.
use Rattle.std.specs.Prelude.{ℕ, ◌-◌, List, ◌++◌}
use Rattle.mesh.specs.Rows.{face_at, cell_at}
use Rattle.records.specs.declared.Fault.{Fault}
use Rattle.faults.specs.declared.Frame.{Frame}
use Rattle.faults.specs.Over.{each}
use Rattle.faults.specs.Faults.{faults_of_face, faults_of_cell}
use Rattle.faults.specs.Sides.{Tables, frame_of, count_of}

-- the faults of the face of number f, of the cell of number c with so many sides
abbrev pub face_faults : ℕ → Frame → List ℕ → ℕ → List Fault
face_faults n frame rows f = faults_of_face n frame f (face_at n rows (f - 1))

abbrev pub cell_faults : Frame → List ℕ → (ℕ → ℕ) → ℕ → List Fault
cell_faults frame rows count c = faults_of_cell frame c (cell_at rows (c - 1)) (count c)

-- "Order: faces rising, .. then cells rising"
unfoldable pub all_faults : ℕ → Tables → List Fault
all_faults n t =
    each (face_faults n (frame_of t) t.face_rows) 1 t.faces ++ each (cell_faults (frame_of t) t.cell_rows (count_of n t)) 1 t.cells
