use Rattle.lines.proofs.Numbers.{Summing}
use Rattle.lines.proofs.listed.number_in.Given as goal

abbrev pub invariant-loop-i : goal.invariant-loop-i
invariant-loop-i l = Summing l.list l.at l.n l.i l.v
