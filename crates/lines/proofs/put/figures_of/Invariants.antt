use Rattle.lines.proofs.Figures.{Figuring}
use Rattle.lines.proofs.put.figures_of.Given as goal

abbrev pub invariant-loop-v : goal.invariant-loop-v
invariant-loop-v l = Figuring l.n l.v l.i l.b

abbrev pub decreases-loop-v : goal.decreases-loop-v
decreases-loop-v l = l.v
