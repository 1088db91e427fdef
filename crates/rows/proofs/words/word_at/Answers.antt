use Rattle.rows.proofs.Wording.{word_alone}
use Rattle.rows.proofs.words.word_at.Goals as goal

pub returns : goal.returns
returns c = word_alone _ _ _ _ c.put_words-next.ensures
