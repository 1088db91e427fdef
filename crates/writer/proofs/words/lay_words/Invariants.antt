use Rattle.std.proofs.Common.{drop}
use Rattle.putting.specs.Putting.{words_bytes}
use Rattle.putting.proofs.Laying.{Left}
use Rattle.writer.proofs.words.lay_words.Given as goal

abbrev pub invariant-loop-word : goal.invariant-loop-word
invariant-loop-word l = Left l.initial.out l.at (words_bytes l.lead l.words) l.out l.c (words_bytes l.b (drop l.word-index l.words))
