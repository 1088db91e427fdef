use Prim.Native.Nat.{◌+◌}
use Rattle.lines.proofs.Numbers.{summing_start, summing_room, summing_more, summing_end, summing_out}
use native.Mathlib.Omega.{arith}
use Rattle.lines.proofs.listed.number_in.Goals as goal

-- src/listed.rt:24:5
pub loop-i-init : goal.loop-i-init
loop-i-init c = summing_start _ _ _

-- src/listed.rt:25:17
pub overflow_add-j : goal.overflow_add-j
overflow_add-j c = omega (arith, c.requires.0, c.requires.1, c.loop-i-test.true)

-- src/listed.rt:27:13
pub returns-then-list-j : goal.returns-then-list-j
returns-then-list-j c = summing_out _ _ _ _ _ c.loop-i.invariant c.if-list-j.true

-- src/listed.rt:30:13
pub overflow_add-v : goal.overflow_add-v
overflow_add-v c = record { fits = summing_room _ _ _ _ _ c.loop-i.invariant c.loop-i-test.true c.requires.0 _ (omega (arith, c.from.ensures, c.type_inv.list (c.args.at + c.loop-i.i))) }

-- src/listed.rt:24:5
pub loop-i-preserved : goal.loop-i-preserved
loop-i-preserved c = summing_more _ _ _ _ _ c.loop-i.invariant _ c.from.ensures (omega (arith, c.from.ensures, c.type_inv.list (c.args.at + c.loop-i.i))) c.loop-i-test.true c.if-list-j.false

-- src/listed.rt:18:1
pub returns : goal.returns
returns c = summing_end _ _ _ _ _ c.loop-i.invariant c.loop-i-test.false
