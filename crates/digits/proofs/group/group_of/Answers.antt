use Rattle.digits.proofs.Gathered.{group_none, group_some, base_at_most}
use lib.Count.{trailing_le}
use native.Mathlib.Omega.{arith}
use Rattle.digits.proofs.group.group_of.Goals as goal

-- src/group.rt:108:9
pub returns-then-count-eq0 : goal.returns-then-count-eq0
returns-then-count-eq0 c = group_none c.args.base c.args.x c.marks-none.result c.marks-none.ensures c.if-count-eq0.true

-- src/group.rt:111:16
pub overflow_mul-bits : goal.overflow_mul-bits
overflow_mul-bits c = omega (arith, trailing_le 64 c.marks-none.result)

-- src/group.rt:112:14
pub overflow_sub-up : goal.overflow_sub-up
overflow_sub-up c = omega (arith, trailing_le 64 c.marks-none.result)

-- src/group.rt:115:9
pub folded-value-requires : goal.folded-value-requires
folded-value-requires c = base_at_most c.args.base _ c.number.ensures

-- src/group.rt:101:1
pub returns : goal.returns
returns c =
    group_some c.args.base c.args.x c.marks-none.result c.marks-none.ensures _ _ _ c.values-all.ensures c.number.ensures c.folded-value.ensures
