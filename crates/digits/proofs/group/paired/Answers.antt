use Prim.Native.Nat.{◌/◌}
use Rattle.digits.proofs.Beside.{paired_below}
use native.Mathlib.Omega.{arith}
use Rattle.digits.proofs.group.paired.Goals as goal

-- src/group.rt:80:5
pub overflow_mul-result : goal.overflow_mul-result
overflow_mul-result c = omega (arith, paired_below c.args.y (c.args.y / c.args.apart) c.args.mask c.args.base c.requires.1)

-- src/group.rt:80:5
pub overflow_add-result : goal.overflow_add-result
overflow_add-result c = omega (arith, paired_below c.args.y (c.args.y / c.args.apart) c.args.mask c.args.base c.requires.1)
