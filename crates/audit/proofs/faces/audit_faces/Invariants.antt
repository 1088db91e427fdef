use Prim.Native.Nat.{◌≤◌, ◌-◌, ◌+◌, ◌*◌}
use mathlib.Core.Path.{◌≡◌}
use lib.ListN.{length}
use Rattle.mesh.specs.Rows.{places, face_at}
use Rattle.faults.specs.Over.{each}
use Rattle.faults.specs.Faults.{positions_of, fault_at, faults_of_kind, faults_of_face}
use Rattle.faults.specs.All.{face_faults}
use Rattle.faults.specs.Counts.{Tallying}
use Rattle.audit.proofs.Loop.{Lays}
use Rattle.audit.proofs.Listing.{kinds_left, bits_left}
use Rattle.audit.proofs.faces.audit_faces.Given as goal

abbrev pub invariant-positions : goal.invariant-positions
invariant-positions l = (l.p ≤ positions_of places (face_at places l.rows (l.f - 1)) l.kind)
    × (positions_of places (face_at places l.rows (l.f - 1)) l.kind ≤ 4)
    × (l.here ≡ bits_left l.frame (face_at places l.rows (l.f - 1)) l.kind l.p)
    × Lays l.initial.list l.initial.s
    (each (fault_at places l.frame l.number (face_at places l.rows (l.f - 1)) l.kind) l.p (positions_of places (face_at places l.rows (l.f - 1)) l.kind - l.p))
    (faults_of_kind places l.frame l.number (face_at places l.rows (l.f - 1)) l.kind) l.p l.list l.s

abbrev pub decreases-positions : goal.decreases-positions
decreases-positions l = l.here

abbrev pub invariant-kinds : goal.invariant-kinds
invariant-kinds l = (1 ≤ l.kind)
    × (l.kind ≤ 8)
    × (l.marks ≡ kinds_left l.frame (face_at places l.rows (l.f - 1)) l.kind)
    × Lays l.initial.list l.initial.s (each (faults_of_kind places l.frame l.number (face_at places l.rows (l.f - 1))) l.kind (8 - l.kind))
    (faults_of_face places l.frame l.number (face_at places l.rows (l.f - 1))) (4 * (l.kind - 1)) l.list l.s

abbrev pub decreases-kinds : goal.decreases-kinds
decreases-kinds l = l.marks

abbrev pub invariant-faces : goal.invariant-faces
invariant-faces l = (l.f ≤ l.faces)
    × (l.cells ≤ length l.counts)
    × Lays l.initial.list l.initial.s (each (face_faults places l.frame l.rows) (l.f + 1) (l.faces - l.f)) (each (face_faults places l.frame l.rows) 1 l.faces) (28 * l.f) l.list l.s
    × Tallying places l.rows l.faces l.cells l.initial.counts (l.f + 1) l.counts

abbrev pub decreases-faces : goal.decreases-faces
decreases-faces l = l.faces - l.f
