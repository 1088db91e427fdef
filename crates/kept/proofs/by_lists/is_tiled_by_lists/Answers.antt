use Rattle.kept.specs.Kept.{listed}
use Rattle.kept.proofs.Keeping.{tiles_end}
use Rattle.kept.proofs.ByLists.{tiles_gap, tiles_more, further}
use mathlib.Core.Path.{sym, ◌∙◌}
use native.Mathlib.Omega.{arith}
use Rattle.kept.proofs.by_lists.is_tiled_by_lists.Goals as goal

pub returns-in_default : goal.returns-in_default
returns-in_default c = let a = c.args in tiles_gap (listed a.lists) a.id a.z c.loop-done.done a.total c.loop-done-test.true (sym c.holder.ensures ∙ c.in_default.is)

pub loop-done-smaller : goal.loop-done-smaller
loop-done-smaller c =
    let a = c.args in
    let more = further (listed a.lists) a.id a.z c.loop-done.done c.in-Some.met (sym c.holder.ensures ∙ c.in-Some.is) in
    omega (arith, more)

pub loop-done-preserved : goal.loop-done-preserved
loop-done-preserved c = let a = c.args in tiles_more (listed a.lists) a.id a.z c.loop-done.done c.in-Some.met (sym c.holder.ensures ∙ c.in-Some.is) c.loop-done.invariant

pub returns : goal.returns
returns c = tiles_end _ _ _ c.loop-done-test.false c.loop-done.invariant
