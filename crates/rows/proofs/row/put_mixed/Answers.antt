use Rattle.rows.proofs.Rowed.{corners_few, mixed_put}
use borrow.Author.Rules.{rules}
use Rattle.rows.proofs.row.put_mixed.Goals as goal

pub put_facing-requires : goal.put_facing-requires
put_facing-requires c = (corners_few _ _ c.corners_of-n.ensures, search rules)

pub returns : goal.returns
returns c = let a = c.args in mixed_put _ _ a.ztype a.k a.rows.now _ _ _ c.count_at-v.ensures c.corners_of-n.ensures c.put_facing.ensures
