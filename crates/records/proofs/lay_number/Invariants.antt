use Rattle.records.proofs.Number.{Laying}
use Rattle.records.proofs.lay_number.Given as goal

abbrev pub invariant-loop-i : goal.invariant-loop-i
invariant-loop-i l = Laying l.n l.x l.initial.list l.i l.v l.list
