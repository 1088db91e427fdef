use Prim.Native.Nat.{◌+◌}
use mathlib.Core.Path.{◌≡◌}
use Rattle.coordinates.specs.Parts.{Fair}
use Rattle.coordinates.proofs.Scanning.{Runs}
use Rattle.coordinates.proofs.scan.digits_from.Given as goal

abbrev pub invariant-loop-b : goal.invariant-loop-b
invariant-loop-b l = Fair l.w l.x × Runs l.w l.initial.x l.x × (l.x.next ≡ l.fn.from.next + l.b-index)
