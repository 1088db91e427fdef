use lib.Bits.{bit_and, bit_xor}
use Rattle.blocks.proofs.block.blanks.Goals as goal

pub returns : goal.returns
returns c =
    (λ i. bit_xor (bit_and (bit_and (bit_and (c.unlike-space.ensures i) (c.unlike-line.ensures i)) (c.unlike-others.ensures i)) 0x8080808080808080) 0x8080808080808080)
