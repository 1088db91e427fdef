use lib.Bits.{or_add_and}
use native.Mathlib.Omega.{arith}
use Rattle.digits.proofs.group.letters.Goals as goal

-- src/group.rt:29:16
pub overflow_add-from : goal.overflow_add-from
overflow_add-from c = omega (arith, or_add_and c.args.low 0x2020202020202020, c.requires)

-- src/group.rt:30:16
pub overflow_add-past : goal.overflow_add-past
overflow_add-past c = omega (arith, or_add_and c.args.low 0x2020202020202020, c.requires)
