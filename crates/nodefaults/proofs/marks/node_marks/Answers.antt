-- `nodefaults::marks::node_marks` meets its contract: the test of each position that is looked at. Assumes nothing.
use lib.ListN.{get_or}
use Rattle.faults.specs.Faults.{wrong_node}
use Rattle.nodefaults.proofs.Marked.{cut_read, cut_few}
use Rattle.nodefaults.proofs.marks.node_marks.Goals as goal

pub returns-then-looked-lt-SOLID_LEAST : goal.returns-then-looked-lt-SOLID_LEAST
returns-then-looked-lt-SOLID_LEAST c =
    cut_few (λ p. wrong_node c.args.nodes (get_or c.args.row p 0)) c.args.looked c.if-looked-lt-SOLID_LEAST.true
    c.wrong_node-a.ensures c.wrong_node-b.ensures c.looked_bits.ensures

pub returns : goal.returns
returns c =
    cut_read (λ p. wrong_node c.args.nodes (get_or c.args.row p 0)) c.args.looked c.requires
    c.wrong_node-a.ensures c.wrong_node-b.ensures c.wrong_node-c.ensures c.wrong_node-d.ensures c.looked_bits-2.ensures
