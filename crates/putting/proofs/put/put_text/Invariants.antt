use Rattle.std.proofs.Common.{drop}
use Rattle.putting.proofs.Putting.{Left}
use Rattle.putting.proofs.put.put_text.Given as goal

abbrev pub invariant-loop-b : goal.invariant-loop-b
invariant-loop-b l = Left l.initial.out l.at l.text l.out l.c (drop l.b-index l.text)
