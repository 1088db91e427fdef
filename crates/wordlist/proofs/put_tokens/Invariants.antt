-- The measure is what is left of the file.
use Rattle.std.proofs.Common.{◌-◌, length}
use Rattle.wordlist.proofs.put_tokens.Given as goal

abbrev pub invariant-loop-next : goal.invariant-loop-next
invariant-loop-next g l = Unit {0}

abbrev pub decreases-loop-next : goal.decreases-loop-next
decreases-loop-next g l = length l.s - l.c.at
