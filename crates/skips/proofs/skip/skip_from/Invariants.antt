use Prim.Native.Nat.{◌-◌}
use lib.ListN.{length}
use Rattle.skips.proofs.Stepping.{Left}
use Rattle.skips.proofs.skip.skip_from.Given as goal

abbrev pub invariant-loop-at : goal.invariant-loop-at
invariant-loop-at l = Left l.s l.at l.c l.d

abbrev pub decreases-loop-at : goal.decreases-loop-at
decreases-loop-at l = length l.s - l.c
