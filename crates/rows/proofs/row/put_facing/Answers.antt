use Rattle.rows.proofs.Rowed.{facing_put}
use Rattle.rows.proofs.row.put_facing.Goals as goal

pub returns : goal.returns
returns c =
    let a = c.args in facing_put _ _ a.ztype a.k a.rows.now a.n _ _ _ _ _ _ c.requires.0 c.store.ensures c.put_words-c.ensures c.put_zeros.ensures c.put_words-d.ensures c.store-2.ensures
