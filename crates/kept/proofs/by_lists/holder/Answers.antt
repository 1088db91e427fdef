use mathlib.Core.Path.{◌∙◌, ap}
use Rattle.std.specs.Prelude.{Some}
use Rattle.kept.specs.Kept.{holds}
use Rattle.kept.proofs.ByLists.{holder_hit, holder_more, holder_none}
use Rattle.kept.proofs.by_lists.holder.Goals as goal

pub returns-then-holds : goal.returns-then-holds
returns-then-holds c =
    ap Some c.kept_at-met.ensures
    ∙ holder_hit _ _ _ _ _ c.loop-left-test.true (c.holds.ensures ∙ ap (holds c.args.id c.args.i) c.kept_at-met.ensures) c.if-holds.true ∙ c.loop-left.invariant

pub loop-left-preserved : goal.loop-left-preserved
loop-left-preserved c = holder_more _ _ _ _ _ c.loop-left-test.true (c.holds.ensures ∙ ap (holds c.args.id c.args.i) c.kept_at-met.ensures) c.if-holds.false ∙ c.loop-left.invariant

pub returns : goal.returns
returns c = holder_none _ _ _ _ c.loop-left-test.false ∙ c.loop-left.invariant
