use Prim.Native.Nat.{◌-◌}
use Rattle.again.proofs.Many.{Repeating}
use lib.Seq.{sets}
use Rattle.rows.proofs.Wording.{naught}
use Rattle.rows.proofs.words.put_zeros.Given as goal

abbrev pub invariant-loop-i : goal.invariant-loop-i
invariant-loop-i l = Repeating sets naught l.n l.k l.initial.words (l.i-end - l.i) l.i l.words
