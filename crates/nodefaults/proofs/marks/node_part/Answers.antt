-- `nodefaults::marks::node_part` meets its contract: kinds 1 to 3 joined, or no fault in them. Assumes nothing.
use Rattle.nodefaults.proofs.Marked.{looked_few, node_none, node_kinds, nodes_small, nodes_joined}
use Rattle.nodefaults.proofs.marks.node_part.Goals as goal

pub node_marks-second-requires : goal.node_marks-second-requires
node_marks-second-requires c = looked_few c.args.face.count c.looked_at-looked.ensures

pub again_marks-third-requires : goal.again_marks-third-requires
again_marks-third-requires c = looked_few c.args.face.count c.looked_at-looked.ensures

pub join-requires : goal.join-requires
join-requires c =
    let a = c.args in
    nodes_small a.frame a.face
    (node_kinds a.frame a.face c.looked_at-looked.ensures c.wrong_count.ensures c.bit_if-first.ensures c.node_marks-second.ensures c.again_marks-third.ensures)

pub returns-then-faulty : goal.returns-then-faulty
returns-then-faulty c =
    let a = c.args in
    nodes_joined a.frame a.face
    (node_kinds a.frame a.face c.looked_at-looked.ensures c.wrong_count.ensures c.bit_if-first.ensures c.node_marks-second.ensures c.again_marks-third.ensures)
    c.join.ensures

pub returns : goal.returns
returns c =
    let a = c.args in
    node_none 4 a.frame a.face c.any_node_fault-faulty.ensures c.if-faulty.false
