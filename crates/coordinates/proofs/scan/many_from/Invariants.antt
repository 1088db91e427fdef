use Rattle.coordinates.proofs.Scanning.{Runs}
use Rattle.coordinates.specs.Parts.{Fair}
use lib.ListN.{length}
use Prim.Native.Nat.{◌-◌}
use Rattle.coordinates.proofs.scan.many_from.Given as goal

abbrev pub invariant-loop-x : goal.invariant-loop-x
invariant-loop-x l = Fair l.w l.x × Runs l.w l.initial.x l.x

abbrev pub decreases-loop-x : goal.decreases-loop-x
decreases-loop-x l = length l.w - l.x.next
