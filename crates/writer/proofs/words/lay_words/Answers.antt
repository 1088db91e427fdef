use Rattle.putting.proofs.Laying.{laid_whole, left_end}
use Rattle.putting.proofs.Words.{words_more, words_none}
use Rattle.writer.proofs.words.lay_words.Goals as goal

pub loop-word-preserved : goal.loop-word-preserved
loop-word-preserved c = words_more _ _ _ c.loop-word.invariant c.loop-word-test.true (laid_whole c.lay_word-c.ensures)

pub returns : goal.returns
returns c = left_end c.loop-word.invariant (words_none _ _ _ c.loop-word-test.false)
