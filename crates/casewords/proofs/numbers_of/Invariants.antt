use Prim.Native.Nat.{◌-◌}
use lib.ListN.{length}
use Rattle.casewords.proofs.Turns.{Counting}
use Rattle.casewords.proofs.numbers_of.Given as goal

abbrev pub invariant-loop-token : goal.invariant-loop-token
invariant-loop-token l = Counting l.s l.initial.numbers l.numbers l.count l.at

abbrev pub decreases-loop-token : goal.decreases-loop-token
decreases-loop-token l = length l.s - l.at
