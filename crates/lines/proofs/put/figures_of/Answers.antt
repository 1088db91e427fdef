use Prim.Native.Nat.{◌+◌}
use Rattle.lines.proofs.Figures.{figuring_kept}
use mathlib.Core.Path.{refl}
use Rattle.lines.proofs.Figures.{figuring_start, figuring_room, figuring_more, figuring_end}
use native.Mathlib.Omega.{arith}
use Rattle.lines.proofs.put.figures_of.Goals as goal

-- src/put.rt:46:5
pub loop-v-init : goal.loop-v-init
loop-v-init c = figuring_start _ _ refl c.ranges.n.fits

-- src/put.rt:49:9
pub bounds-b-i : goal.bounds-b-i
bounds-b-i c = omega (arith, c.loop-v.invariant.low, c.loop-v.invariant.size)

-- src/put.rt:51:9
pub overflow_sub-i : goal.overflow_sub-i
overflow_sub-i c = figuring_room _ _ _ _ c.loop-v.invariant c.loop-v-test.true

-- src/put.rt:46:5
pub loop-v-smaller : goal.loop-v-smaller
loop-v-smaller c = omega (arith, c.loop-v-test.true)

-- src/put.rt:46:5
pub loop-v-preserved : goal.loop-v-preserved
loop-v-preserved c = figuring_more _ _ _ _ c.loop-v.invariant _ refl c.loop-v-test.true

-- src/put.rt:53:16
pub overflow_add-last : goal.overflow_add-last
overflow_add-last c = omega (arith, c.loop-v-test.false)

-- src/put.rt:54:12
pub overflow_cast-b-2 : goal.overflow_cast-b-2
overflow_cast-b-2 c = omega (arith, c.loop-v-test.false)

-- src/put.rt:54:5
pub bounds-b-i-2 : goal.bounds-b-i-2
bounds-b-i-2 c = omega (arith, c.loop-v.invariant.low, c.loop-v.invariant.size)

-- src/put.rt:40:1
pub returns : goal.returns
returns c = let g = c.loop-v.invariant in (figuring_end _ _ _ _ g _ refl c.loop-v-test.false, g.low, figuring_kept _ _ _ _ g (48 + c.loop-v.v))
