use Rattle.putting.proofs.Counting.{count_after}
use native.Mathlib.Omega.{arith}
use Rattle.putting.proofs.number.few_count.Goals as goal

pub returns-then-n-two : goal.returns-then-n-two
returns-then-n-two c = let p = c.requires in count_after _ _ _ 0 p.1 (omega (arith, p.3)) (omega (arith, c.if-n-two.true))

pub returns-else-n-two : goal.returns-else-n-two
returns-else-n-two c = count_after _ _ _ 1 c.requires.1 (omega (arith, c.if-n-two.false)) (omega (arith, c.if-n-three.true))

pub returns-then-n-four : goal.returns-then-n-four
returns-then-n-four c = count_after _ _ _ 2 c.requires.1 (omega (arith, c.if-n-three.false)) (omega (arith, c.if-n-four.true))

pub returns-else-n-four : goal.returns-else-n-four
returns-else-n-four c = let p = c.requires in count_after _ _ _ 3 p.1 (omega (arith, c.if-n-four.false)) (omega (arith, p.4))
