-- Marks, which are parentheses and quotes, among eight bytes. Nothing here has to be believed: the public contracts do not cite it. Assumes nothing.
use Rattle.std.specs.Prelude.{ℕ}
use Rattle.std.specs.Int.Bits.{bit_and, bit_or, bit_xor}
use Rattle.digits.specs.Lanes.{unlike_of}

-- the highest bit of each lane in which a mark stands; the parentheses 40 and 41 differ in the lowest bit only
abbrev pub marks_of : ℕ → ℕ
marks_of x =
    bit_xor (bit_and (bit_and (unlike_of x 0x2222222222222222) (unlike_of (bit_or x 0x0101010101010101) 0x2929292929292929)) 0x8080808080808080)
    0x8080808080808080
