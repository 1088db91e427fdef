-- `sidefaults::marks::side_part` meets its contract: the bits of kinds 4 to 7 added, or no fault in them. Assumes nothing.
use Rattle.sidefaults.proofs.Marked.{side_none, sides_joined}
use Rattle.sidefaults.proofs.marks.side_part.Goals as goal

pub returns-then-faulty : goal.returns-then-faulty
returns-then-faulty c =
    let a = c.args in
    sides_joined a.frame a.face c.bit_if-right.ensures c.bit_if-left.ensures
    c.is_same.ensures c.bit_if-same.ensures
    c.is_open.ensures c.bit_if-open.ensures
    c.is_loose.ensures c.bit_if-loose.ensures

pub returns : goal.returns
returns c =
    let a = c.args in
    side_none 4 a.frame a.face c.any_side_fault-faulty.ensures c.if-faulty.false
