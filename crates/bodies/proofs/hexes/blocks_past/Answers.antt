use mathlib.Core.Path.{◌∙◌, sym}
use Rattle.bodies.proofs.Partly.{block_next}
use Rattle.bodies.proofs.hexes.blocks_past.Goals as goal

pub overflow_sub-left : goal.overflow_sub-left
overflow_sub-left c =
    (block_next c.args.s.now c.args.at c.args.n _ _ _ _ _ c.loop-x.invariant c.block_of.ensures c.bytes_at-x.ensures (sym c.goes_for.ensures ∙ c.loop-x-test.true) _ c.in-Some.is).few

pub loop-x-preserved : goal.loop-x-preserved
loop-x-preserved c =
    (block_next c.args.s.now c.args.at c.args.n _ _ _ _ _ c.loop-x.invariant c.block_of.ensures c.bytes_at-x.ensures (sym c.goes_for.ensures ∙ c.loop-x-test.true) _ c.in-Some.is).more
