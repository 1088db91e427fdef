use mathlib.Core.Path.{◌≡◌}
use Prim.Native.Nat.{◌+◌}
use Rattle.rows.proofs.Wording.{Wording}
use Rattle.rows.proofs.words.put_words.Given as goal

abbrev pub invariant-loop-left : goal.invariant-loop-left
invariant-loop-left l = (l.i + l.left ≡ l.k + l.n) × Wording l.s l.at l.n l.k l.initial.words l.c l.left l.i l.words

abbrev pub decreases-loop-left : goal.decreases-loop-left
decreases-loop-left l = l.left
