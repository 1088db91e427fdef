use Rattle.kept.proofs.Keeping.{tiles_gap, tiles_more, tiles_end, further}
use mathlib.Core.Path.{sym, ◌∙◌}
use native.Mathlib.Omega.{arith}
use Rattle.kept.proofs.is_tiled.Goals as goal

pub returns-in_default : goal.returns-in_default
returns-in_default c = let a = c.args in tiles_gap a.kept.now a.id a.z c.loop-done.done a.total c.loop-done-test.true (sym c.holder.ensures ∙ c.in_default.is)

pub loop-done-smaller : goal.loop-done-smaller
loop-done-smaller c =
    let a = c.args in
    let more = further a.kept.now a.id a.z c.loop-done.done c.in-Some.met (sym c.holder.ensures ∙ c.in-Some.is) in
    omega (arith, more)

pub loop-done-preserved : goal.loop-done-preserved
loop-done-preserved c = let a = c.args in tiles_more a.kept.now a.id a.z c.loop-done.done c.in-Some.met (sym c.holder.ensures ∙ c.in-Some.is) c.loop-done.invariant

pub returns : goal.returns
returns c = tiles_end _ _ _ c.loop-done-test.false c.loop-done.invariant
