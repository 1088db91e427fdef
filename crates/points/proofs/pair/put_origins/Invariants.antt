use Prim.Native.Nat.{◌+◌, ◌-◌}
use Rattle.points.specs.Points.{set_pairs}
use Rattle.points.specs.Points.{seen, Kept}
use Rattle.points.proofs.Pointed.{naught}
use Rattle.again.proofs.Many.{Repeating}
use Rattle.points.proofs.pair.put_origins.Given as goal

abbrev pub invariant-loop-i : goal.invariant-loop-i
invariant-loop-i l = Repeating set_pairs naught l.n l.k (seen l.initial.lent) (l.k + l.n - l.i) l.i (seen l.lent) × Kept l.initial.lent l.lent
