use Prim.Native.Nat.{◌*◌, ◌^◌}
use Rattle.decimals.proofs.Tens.{Cutting}
use Rattle.coordinates.proofs.finish.cut_of.Given as goal

abbrev pub invariant-loop-v : goal.invariant-loop-v
invariant-loop-v l = Cutting (l.m * 10 ^ l.tail) l.v l.zeros

abbrev pub decreases-loop-v : goal.decreases-loop-v
decreases-loop-v l = l.v
