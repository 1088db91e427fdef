use Prim.Native.Nat.{◌+◌, ◌-◌, ◌*◌}
use mathlib.Core.List.{[], ◌∷◌}
use Rattle.again.proofs.Many.{Repeating}
use lib.Seq.{sets}
use Rattle.rows.proofs.body.put_copies.Given as goal

abbrev pub invariant-loop-j : goal.invariant-loop-j
invariant-loop-j l = Repeating sets (l.element ∷ l.ztype ∷ []) l.n l.k l.initial.rows (l.n - l.j) (l.k + l.j * 2) l.rows
