use Rattle.lines.proofs.Writing.{Copying}
use Rattle.lines.proofs.put.put_text.Given as goal

abbrev pub invariant-loop-b : goal.invariant-loop-b
invariant-loop-b l = Copying l.text l.initial.out l.at l.b-index l.c l.out
