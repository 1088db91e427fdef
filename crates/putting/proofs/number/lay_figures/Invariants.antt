use Rattle.putting.proofs.Figuring.{Laying}
use Rattle.putting.proofs.number.lay_figures.Given as goal

abbrev pub invariant-loop-left : goal.invariant-loop-left
invariant-loop-left g l = Laying g.row.BASE l.from l.initial.out l.n l.out l.v l.left
