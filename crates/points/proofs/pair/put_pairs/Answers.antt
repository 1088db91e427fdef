use mathlib.Core.Path.{◌∙◌}
use Rattle.points.proofs.Pointed.{pairing_more, pairing_end}
use Rattle.points.proofs.pair.put_pairs.Goals as goal

pub loop-i-preserved : goal.loop-i-preserved
loop-i-preserved c =
    let h = c.loop-i.invariant in
    let p = c.put_pair-c.ensures in
    (pairing_more _ _ _ _ _ _ _ _ h.0 _ _ c.loop-i-test.true p.rows, (p.same_references.0 ∙ h.1.0, p.same_references.1 ∙ h.1.1))

pub returns-clause-rows : goal.returns-clause-rows
returns-clause-rows c = pairing_end _ _ _ _ _ _ _ _ c.loop-i.invariant.0 c.loop-i-test.false
