use Rattle.std.proofs.Common.{◌≡◌, ap, arith, length, take, rules}
use Rattle.std.specs.Iterator.Adapters.{zip_first, zip_second}
use Rattle.std.specs.Slice.Iter.{iter_rest}
use mir.Syntax.{w32, w64}
use mir.Val.{SFits}
use Rattle.std.proofs.lemmas.Iterator.{empty_from_Zip}
use Rattle.putting.proofs.Laying.{left_end}
use Rattle.writer.proofs.Points.{pairs_begin, pairs_more, pairs_none}
use Rattle.writer.proofs.nodes.put_point.Goals as goal

pub loop-m-init : goal.loop-m-init
loop-m-init c =
    let a = c.args in
    let i = c.into_iter-m-iterator.ensures.into_iter_gives in
    let x : iter_rest (zip_first c.into_iter-m-iterator.result) ≡ take a.d a.ms.now = cc (i, c.zip-m-items.ensures.first, c.iter.ensures.rest) in
    let y : iter_rest (zip_second c.into_iter-m-iterator.result) ≡ take a.d a.es.now = cc (i, c.zip-m-items.ensures.second.0) in
    let g = pairs_begin 10 a.d a.ms.now a.es.now x y (omega (arith, c.told-ms, c.requires)) (omega (arith, c.told-es, c.requires)) (omega arith) (omega arith) in
    record { same = g.0; laying = g.1 }

pub loop-m-preserved : goal.loop-m-preserved
loop-m-preserved c =
    let s = c.in-Some.ensures.steps in
    let g = c.loop-m.invariant in
    let f : SFits w64 c.in-Some.field-0-0.now = search rules in
    let h : SFits w32 c.in-Some.field-0-1.now = search rules in
    record { same = omega (arith, g.same, ap length s.0, ap length s.1); laying = pairs_more _ _ _ _ _ g.laying s.0 s.1 f h c.lay_coordinate-c.ensures }

pub returns : goal.returns
returns c = let spent = empty_from_Zip _ c.next.new.self _ c.in-None.is c.next.ensures.steps (search rules) in left_end c.loop-m.invariant.laying (pairs_none _ _ _ spent.0)
