use mathlib.Core.Path.{◌∙◌}
use Rattle.points.proofs.Pointed.{pointing_more, pointing_end}
use Rattle.points.proofs.body.put_all.Goals as goal

pub loop-j-preserved : goal.loop-j-preserved
loop-j-preserved c =
    let h = c.loop-j.invariant in
    let p = c.put_point-c.ensures in
    (pointing_more _ _ _ _ _ _ _ _ _ h.0 _ _ c.loop-j-test.true p.rows, (p.same_references.0 ∙ h.1.0, p.same_references.1 ∙ h.1.1))

pub returns-clause-rows : goal.returns-clause-rows
returns-clause-rows c = pointing_end _ _ _ _ _ _ _ _ _ c.loop-j.invariant.0 c.loop-j-test.false
