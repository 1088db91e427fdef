use Rattle.rows.proofs.Rowed.{corners_few, row_by, facing_by}
use borrow.Author.Rules.{rules}
use Rattle.rows.proofs.row.put_row.Goals as goal

pub put_facing-requires : goal.put_facing-requires
put_facing-requires c = (corners_few _ _ c.corners_of-m.ensures, search rules)

pub returns-in-Facing : goal.returns-in-Facing
returns-in-Facing c =
    let a = c.args in row_by _ _ a.ztype a.k a.rows.now _ _ _ c.in-Facing.is (facing_by _ _ a.ztype a.k a.rows.now _ _ _ c.corners_of-m.ensures c.put_facing.ensures)

pub returns-in-Mixed : goal.returns-in-Mixed
returns-in-Mixed c = let a = c.args in row_by _ _ a.ztype a.k a.rows.now _ _ _ c.in-Mixed.is c.put_mixed.ensures

pub returns-in-Element : goal.returns-in-Element
returns-in-Element c = let a = c.args in row_by _ _ a.ztype a.k a.rows.now _ _ _ c.in-Element.is c.put_element.ensures
