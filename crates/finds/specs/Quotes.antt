-- Quotes among eight bytes. Nothing here has to be believed: the public contracts do not cite it. Assumes nothing.
use Rattle.std.specs.Prelude.{ℕ}
use Rattle.std.specs.Int.Bits.{bit_and, bit_xor}
use Rattle.digits.specs.Lanes.{unlike_of}

-- the highest bit of each lane in which a quote stands
abbrev pub quotes_of : ℕ → ℕ
quotes_of x = bit_xor (bit_and (unlike_of x 0x2222222222222222) 0x8080808080808080) 0x8080808080808080
