use Rattle.rows.proofs.Rowed.{element_put}
use Rattle.rows.proofs.row.put_element.Goals as goal

pub returns : goal.returns
returns c = let a = c.args in element_put _ _ a.ztype a.k a.rows.now _ _ c.count_at-v.ensures c.store.ensures c.store-2.ensures
