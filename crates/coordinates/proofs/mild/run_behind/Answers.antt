use Rattle.coordinates.proofs.Eights.{found, run_more, run_stop, run_eight, eight_inside, run_fits}
use mathlib.Core.Path.{refl, ◌∙◌}
use native.Mathlib.Omega.{arith}
use Rattle.coordinates.proofs.mild.run_behind.Goals as goal

-- src/mild.rt:43:5
pub loop-step-init : goal.loop-step-init
loop-step-init c = (refl, c.ranges.at.fits)

-- src/mild.rt:49:23
pub overflow_add-end : goal.overflow_add-end
overflow_add-end c =
    omega (arith, run_fits _ _ _ (found c.args.w.now c.loop-step.i c.bytes_at-bytes.result c.group_of-g.result c.bytes_at-bytes.ensures c.group_of-g.ensures) c.loop-step.invariant.1 c.well_formed.0.0)

-- src/mild.rt:50:13
pub returns-then-count-lt8 : goal.returns-then-count-lt8
returns-then-count-lt8 c =
    let f = found c.args.w.now c.loop-step.i c.bytes_at-bytes.result c.group_of-g.result c.bytes_at-bytes.ensures c.group_of-g.ensures in run_stop _ _ _ f c.if-count-lt8.true ∙ run_more _ _ _ f ∙ c.loop-step.invariant.0

-- src/mild.rt:52:9
pub overflow_add-i : goal.overflow_add-i
overflow_add-i c =
    omega (arith, eight_inside _ _ _ (found c.args.w.now c.loop-step.i c.bytes_at-bytes.result c.group_of-g.result c.bytes_at-bytes.ensures c.group_of-g.ensures) (omega (arith, c.if-count-lt8.false)), c.well_formed.0.0)

-- src/mild.rt:43:5
pub loop-step-smaller : goal.loop-step-smaller
loop-step-smaller c =
    omega (arith, eight_inside _ _ _ (found c.args.w.now c.loop-step.i c.bytes_at-bytes.result c.group_of-g.result c.bytes_at-bytes.ensures c.group_of-g.ensures) (omega (arith, c.if-count-lt8.false)))

-- src/mild.rt:43:5
pub loop-step-preserved : goal.loop-step-preserved
loop-step-preserved c =
    let f = found c.args.w.now c.loop-step.i c.bytes_at-bytes.result c.group_of-g.result c.bytes_at-bytes.ensures c.group_of-g.ensures in (run_eight _ _ _ f (omega (arith, c.if-count-lt8.false)) ∙ c.loop-step.invariant.0, omega (arith, eight_inside _ _ _ f (omega (arith, c.if-count-lt8.false)), c.well_formed.0.0))
