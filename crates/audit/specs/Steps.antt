-- What the audit's parts show of each other. No definition that a reader of the audit needs. Assumes nothing.
use Rattle.std.specs.Prelude.{ℕ, ◌+◌, ◌-◌, ◌*◌, ◌≤◌, ◌<◌, ◌≡◌, List, ◌++◌, Bool, true, length, drop, get_or}
use Rattle.mesh.specs.Rows.{places, face_at, cell_at}
use Rattle.mesh.specs.declared.Face.{Face}
use Rattle.records.specs.declared.Fault.{Fault}
use Rattle.records.specs.Record.{narrow}
use Rattle.records.specs.Laid.{pen_at, laid, run}
use Rattle.faults.specs.declared.Frame.{Frame}
use Rattle.faults.specs.Over.{each, listed}
use Rattle.faults.specs.Faults.{any_fault, any_cell_fault}
use Rattle.faults.specs.Sides.{count_over}
use Rattle.faults.specs.All.{face_faults, cell_faults}
use Rattle.faults.specs.Counts.{bump, Tallying}
use Rattle.audit.specs.declared.Stand.{Stand}

abbrev pub at_start : Stand
at_start = record { pen = pen_at 0 true; total = 0 }

-- the faults fs, at most n of them, were laid and counted
pub record Visited (old : List ℕ) (s : Stand) (fs : List Fault) (n : ℕ) (new : List ℕ) (r : Stand) : Type 0 where
  pub ran : laid new r.pen ≡ run narrow (laid old s.pen) fs
  pub counted : r.total ≡ s.total + length fs
  pub few : length fs ≤ n

-- of n rows the first r were passed, since they add nothing to the list; the row at i, counted from 0, has the faults g (i + 1)
pub record Passed (g : ℕ → List Fault) (n r : ℕ) : Type 0 where
  pub within : r ≤ n
  pub quiet : each g 1 n ≡ each g (r + 1) (n - r)

-- the cells up to the first with a fault: it is the one at r, or all are sound and r is their number
pub record SoundCells (frame : Frame) (rows counts : List ℕ) (r : ℕ) : Type 0 where
  pub passed : Passed (cell_faults frame rows (λ c. get_or counts (c - 1) 0)) frame.cells r
  pub faulty : r < frame.cells → any_cell_fault frame.dim (cell_at rows r) (get_or counts r 0) ≡ true

-- both sides of a face were counted, and a test of it answered
pub record Tallied (test : Frame → Face → Bool) (frame : Frame) (face : Face) (first last : List ℕ) (r : Bool) : Type 0 where
  pub counts : last ≡ bump frame.cells face.left (bump frame.cells face.right first)
  pub answer : r ≡ test frame face

-- the faces from `from` on, counted from 0, up to the first with a fault: it is r, or all are sound and r is `faces`
pub record Sound (frame : Frame) (from faces : ℕ) (rows first last : List ℕ) (r : ℕ) : Type 0 where
  pub ahead : from ≤ r
  pub within : r ≤ faces
  -- those before r add nothing to the list
  pub quiet : each (face_faults places frame rows) (from + 1) (faces - from) ≡ each (face_faults places frame rows) (r + 1) (faces - r)
  pub faulty : r < faces → any_fault places frame (face_at places rows r) ≡ true
  -- the sides of r are counted too; behind the last face no side is left
  pub tallied : Tallying places rows faces frame.cells first (r + 1) last

-- the pass over the faces: their faults laid from the start of the list, at most 28 a face, and the counts as they end
pub record Faced (frame : Frame) (faces : ℕ) (rows first old last new : List ℕ) (r : Stand) : Type 0 where
  pub visited : Visited old at_start (each (face_faults places frame rows) 1 faces) (28 * faces) new r
  pub counts : last ≡ listed (count_over places rows faces) 1 frame.cells ++ drop frame.cells first
