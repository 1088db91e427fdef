use mathlib.Core.Path.{refl, ◌∙◌}
use Rattle.filling.proofs.Whole.{filling_start, filling_end, filling_more}
use native.Mathlib.Omega.{arith}
use Rattle.filling.proofs.fill.fill_tables.Goals as goal

pub loop-z-init : goal.loop-z-init
loop-z-init c = (filling_start _ _ _ _ _, (refl, refl, refl, refl, refl))

pub offset_bounds-places-z : goal.offset_bounds-places-z
offset_bounds-places-z c = omega (arith, c.loop-z-test.true, c.requires.0)

pub bounds-places-z : goal.bounds-places-z
bounds-places-z c = omega (arith, c.loop-z-test.true, c.requires.0)

pub section_into-requires : goal.section_into-requires
section_into-requires c = (c.requires.1, omega (arith, c.loop-z-test.true, c.requires.0))

pub loop-z-smaller : goal.loop-z-smaller
loop-z-smaller c = omega (arith, c.loop-z-test.true)

pub loop-z-preserved : goal.loop-z-preserved
loop-z-preserved c =
    let h = c.loop-z.invariant in
    let p = c.section_into.ensures in
    let k = p.same_references in
    (filling_more _ _ _ _ _ _ _ h.0 c.loop-z-test.true _ refl _ p.rows, (k.0 ∙ h.1.0, k.1 ∙ h.1.1, k.2 ∙ h.1.2, k.3 ∙ h.1.3, k.4 ∙ h.1.4))

pub returns-clause-rows : goal.returns-clause-rows
returns-clause-rows c = filling_end _ _ _ _ _ _ _ c.loop-z.invariant.0 c.loop-z-test.false
