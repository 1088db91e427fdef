use mathlib.Core.Path.{◌∙◌, ap}
use Rattle.points.specs.Points.{seen, set_pairs}
use Rattle.points.proofs.Pointed.{no_pairs, pairs_behind, origins_are}
use Rattle.again.proofs.Many.{repeat_more, repeat_end}
use native.Mathlib.Omega.{arith}
use Rattle.points.proofs.pair.put_origins.Goals as goal

pub loop-i-preserved : goal.loop-i-preserved
loop-i-preserved c =
    let h = c.loop-i.invariant in
    let p = c.put.ensures in
    (repeat_more set_pairs no_pairs pairs_behind _ _ _ _ _ _ _ h.0 _ _ _ (omega (arith, c.loop-i-test.true)) (omega arith) p.rows, (p.same_references.0 ∙ h.1.0, p.same_references.1 ∙ h.1.1))

pub returns-clause-rows : goal.returns-clause-rows
returns-clause-rows c =
    let a = c.args in repeat_end set_pairs no_pairs pairs_behind _ _ _ _ _ _ _ c.loop-i.invariant.0 (omega (arith, c.loop-i-test.false)) ∙ ap (set_pairs (seen a.lent.now) a.k) (origins_are a.n)
