use Prim.Native.Nat.{◌+◌, ◌-◌}
use Rattle.points.specs.Points.{seen, Kept}
use Rattle.points.proofs.Pointed.{Pairing}
use Rattle.points.proofs.pair.put_pairs.Given as goal

abbrev pub invariant-loop-i : goal.invariant-loop-i
invariant-loop-i l = Pairing l.s l.at l.n l.k (seen l.initial.lent) l.c (l.k + l.n - l.i) l.i (seen l.lent) × Kept l.initial.lent l.lent
