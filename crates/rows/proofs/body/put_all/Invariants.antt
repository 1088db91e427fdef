use Prim.Native.Nat.{◌+◌, ◌-◌, ◌*◌}
use mathlib.Core.Path.{◌≡◌}
use Rattle.rows.proofs.Rowed.{Filing}
use Rattle.rows.proofs.body.put_all.Given as goal

abbrev pub invariant-loop-row : goal.invariant-loop-row
invariant-loop-row l = (l.i ≡ l.k + l._row * l.width) × Filing l.s l.form l.ztype l.at l.n l.k l.initial.rows l.c (l.n - l._row) l.i l.rows
