-- `marks::marks_of` meets its contract: the two parts joined. Assumes nothing.
use native.Mathlib.Omega.{arith}
use Rattle.faults.proofs.Marked.{node_part_small, side_part_small}
use Rattle.marks.proofs.Joined.{parts_joined}
use Rattle.marks.proofs.marks_of.Goals as goal

pub overflow_mul-result : goal.overflow_mul-result
overflow_mul-result c = let a = c.args in omega (arith, c.side_part-of_sides.ensures, side_part_small a.frame a.face)

pub overflow_add-result : goal.overflow_add-result
overflow_add-result c =
    let a = c.args in
    omega (arith, c.node_part-of_nodes.ensures, c.side_part-of_sides.ensures, node_part_small a.frame a.face, side_part_small a.frame a.face)

pub returns : goal.returns
returns c = let a = c.args in parts_joined a.frame a.face c.node_part-of_nodes.ensures c.side_part-of_sides.ensures
