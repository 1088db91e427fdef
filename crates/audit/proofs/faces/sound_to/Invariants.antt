use Prim.Native.Nat.{◌≤◌, ◌-◌, ◌+◌}
use mathlib.Core.Path.{◌≡◌}
use lib.ListN.{length}
use Rattle.mesh.specs.Rows.{places}
use Rattle.faults.specs.Over.{each}
use Rattle.faults.specs.All.{face_faults}
use Rattle.faults.specs.Counts.{Tallying}
use Rattle.audit.proofs.faces.sound_to.Given as goal

abbrev pub invariant-loop-f : goal.invariant-loop-f
invariant-loop-f l = (l.from ≤ l.f)
    × (l.f ≤ l.faces)
    × (l.frame.cells ≤ length l.counts)
    × (each (face_faults places l.frame l.rows) (l.from + 1) (l.faces - l.from) ≡ each (face_faults places l.frame l.rows) (l.f + 1) (l.faces - l.f))
    × Tallying places l.rows l.faces l.frame.cells l.initial.counts l.f l.counts
