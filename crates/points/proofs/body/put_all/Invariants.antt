use Rattle.points.specs.Points.{seen, Kept}
use Rattle.points.proofs.Pointed.{Pointing}
use Rattle.points.proofs.body.put_all.Given as goal

abbrev pub invariant-loop-j : goal.invariant-loop-j
invariant-loop-j l = Pointing l.s l.d l.at l.n l.k (seen l.initial.lent) l.c l.j (seen l.lent) × Kept l.initial.lent l.lent
