use Rattle.std.proofs.Common.{arith, ap, length, rules}
use Rattle.std.proofs.lemmas.Iterator.{empty_from_Zip}
use Rattle.putting.proofs.Laying.{left_end}
use Rattle.writer.proofs.Points.{nodes_more, nodes_none}
use Rattle.writer.proofs.nodes.put_nodes.Goals as goal

pub loop-m-preserved : goal.loop-m-preserved
loop-m-preserved c =
    let s = c.in-Some.ensures.steps in
    let g = c.loop-m.invariant in
    record { same = omega (arith, g.same, ap length s.0, ap length s.1); laying = nodes_more c.args.d _ _ _ _ g.laying s.0 s.1 c.put_point-c.ensures }

pub returns : goal.returns
returns c = let spent = empty_from_Zip _ c.next.new.self _ c.in-None.is c.next.ensures.steps (search rules) in left_end c.loop-m.invariant.laying (nodes_none _ _ _ spent.0)
