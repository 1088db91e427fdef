-- `faults::cells::cell_marks` meets its contract: two bits added. Assumes nothing.
use native.Mathlib.Omega.{arith}
use Rattle.faults.proofs.Marked.{cell_marks_are, cell_marks_small}
use Rattle.faults.proofs.cells.cell_marks.Goals as goal

pub overflow_add-result : goal.overflow_add-result
overflow_add-result c =
    let a = c.args in
    let e = cell_marks_are a.frame a.cell a.count c.wrong_element.ensures c.bit_if-of_element.ensures c.wrong_sides.ensures c.bit_if-of_sides.ensures in
    omega (arith, e, cell_marks_small a.frame a.cell a.count)

pub returns : goal.returns
returns c =
    let a = c.args in
    cell_marks_are a.frame a.cell a.count c.wrong_element.ensures c.bit_if-of_element.ensures c.wrong_sides.ensures c.bit_if-of_sides.ensures
