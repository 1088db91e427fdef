use borrow.Author.Tests.{tests}
use mathlib.Core.Path.{◌∙◌, ap}
use Rattle.kept.specs.Kept.{apart}
use Rattle.kept.proofs.ByLists.{clear_more, clear_off, clear_none}
use Rattle.kept.proofs.by_lists.is_clear_by_lists.Goals as goal

pub returns-then-not-is_apart : goal.returns-then-not-is_apart
returns-then-not-is_apart c =
    clear_off _ _ _ _ _ _ c.loop-i-test.true (c.is_apart.ensures ∙ ap (apart c.args.id c.args.first c.args.last) c.kept_at.ensures) (search tests) ∙ c.loop-i.invariant

pub loop-i-preserved : goal.loop-i-preserved
loop-i-preserved c =
    clear_more _ _ _ _ _ _ c.loop-i-test.true (c.is_apart.ensures ∙ ap (apart c.args.id c.args.first c.args.last) c.kept_at.ensures) (search tests) ∙ c.loop-i.invariant

pub returns : goal.returns
returns c = clear_none _ _ _ _ _ c.loop-i-test.false ∙ c.loop-i.invariant
