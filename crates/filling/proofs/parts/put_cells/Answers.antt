use Rattle.filling.proofs.Passing.{cells_mixed, cells_same}
use Rattle.filling.proofs.parts.put_cells.Goals as goal

pub returns-then-element-eq0 : goal.returns-then-element-eq0
returns-then-element-eq0 c = let a = c.args in cells_mixed _ _ a.n a.k a.zone a.cells.now _ _ c.if-element-eq0.true c.past_left-inside.ensures c.put_rows.ensures

pub returns : goal.returns
returns c = let a = c.args in cells_same _ a.at a.n a.k a.zone a.cells.now _ c.if-element-eq0.false c.put_same.ensures
