use Rattle.rows.proofs.Wording.{word_put}
use Rattle.rows.proofs.words.put_word.Goals as goal

pub returns : goal.returns
returns c = let a = c.args in word_put _ _ a.k a.words.now _ c.known_hex-v.ensures c.store.ensures
