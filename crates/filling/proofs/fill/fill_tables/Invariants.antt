use Rattle.std.specs.Prelude.{◌-◌}
use Rattle.filling.specs.Passing.{tabled, Kept}
use Rattle.filling.proofs.Whole.{Filling}
use Rattle.filling.proofs.fill.fill_tables.Given as goal

abbrev pub invariant-loop-z : goal.invariant-loop-z
invariant-loop-z l = Filling l.s l.places l.n l.d l.z (tabled l.initial.lent) (tabled l.lent) × Kept l.initial.lent l.lent

abbrev pub decreases-loop-z : goal.decreases-loop-z
decreases-loop-z l = l.n - l.z
