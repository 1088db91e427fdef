use lib.Count.{ones}
use lib.Bits.{bit_and, bit_or, bit_xor}
use Prim.Native.Nat.{◌%◌, ◌*◌}
use Rattle.blocks.proofs.block.words_in.Goals as goal

pub returns : goal.returns
returns c =
    (λ i. ones (bit_and c.args.none (bit_or (bit_xor c.args.none 0x8080808080808080 * 256 % 18446744073709551616) (c.carry_of-carry.ensures i))))
