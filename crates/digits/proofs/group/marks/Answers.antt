use Prim.Native.Nat.{ℕ}
use mathlib.Core.Path.{ap}
use lib.Bits.{bit_and, bit_or, bit_xor, and_le_r}
use Rattle.digits.proofs.group.marks.Goals as goal

-- src/group.rt:52:9
pub shown-is-requires : goal.shown-is-requires
shown-is-requires c = and_le_r c.args.x 0x7f7f7f7f7f7f7f7f

-- src/group.rt:48:1
pub returns : goal.returns
returns c = ap (λ (s : ℕ). bit_or (bit_xor (bit_and s 0x8080808080808080) 0x8080808080808080) (bit_and c.args.x 0x8080808080808080)) c.shown-is.ensures
