use lib.Bits.{bit_xor, and_le_r}
use native.Mathlib.Omega.{arith}
use Rattle.digits.proofs.lanes.unlike.Goals as goal

-- src/blocks.rt:20:15
pub overflow_add-sum : goal.overflow_add-sum
overflow_add-sum c = omega (arith, and_le_r (bit_xor c.args.x c.args.c) 0x7f7f7f7f7f7f7f7f)
