use Prim.Native.Nat.{◌≤◌}
use lib.ListN.{drop}
use Rattle.digits.specs.Lanes.{Laned}
use Rattle.digits.proofs.lanes.few_at.Given as goal

abbrev pub invariant-loop-i : goal.invariant-loop-i
invariant-loop-i l = record { down : l.at ≤ l.i; held : Laned (drop l.i l.w) l.x }
