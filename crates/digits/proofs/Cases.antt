-- Closed cases of the functions that only our own crates call: the right answer, and what a wrong program would have answered there. Assumes nothing.
use Prim.Native.Nat.{◌+◌, ◌-◌, ◌*◌, ◌/◌, ◌%◌, ◌^◌}
use mathlib.Core.Path.{◌≡◌, refl}
use lib.Bits.{bit_and, bit_xor}
use lib.Count.{count_trailing_zeros}
use lib.ListN.{take, drop}
use Rattle.facts.specs.Text.{bytes}
use Rattle.digits.specs.declared.group.Base.{Base}
use Rattle.digits.specs.Digits.{digit_of, digits_in}
use Rattle.digits.specs.Hexes.{hexes_by, hexes_of}
use Rattle.digits.specs.Lanes.{lanes, marks_of, unlike_of, folded_of, base_of, group_by}
use Rattle.digits.specs.Couples.{ends_of, nibbles_of, end_in, couple, couple_of}

-- `bytes_at`: the first byte taken for the highest
bytes_at : (lanes 8 (take 8 (drop 1 (bytes "x12"))) ≡ 0x3231) × (lanes 8 (bytes "21") ≡ 0x3132)
unfolding lanes
bytes_at = (refl, refl)

-- `marks`: `f` taken for no digit, as where digits are decimal
marks : (marks_of Base.Sixteen (lanes 8 (bytes "0123456f")) ≡ 0) × (marks_of Base.Ten (lanes 8 (bytes "0123456f")) ≡ 0x8000000000000000)
unfolding lanes
marks = (refl, refl)

-- `unlike`: the highest bit left out, so that byte 160 is like byte 32
unlike : (unlike_of 160 32 ≡ 0x7f7f7f7f7f7f7fff) × (bit_and (bit_xor 160 32) 0x7f7f7f7f7f7f7f7f + 0x7f7f7f7f7f7f7f7f ≡ 0x7f7f7f7f7f7f7f7f)
unlike = (refl, refl)

-- `group_of`: a letter worth one less
group_of : ((group_by (digits_in (base_of Base.Sixteen) 0 0 (bytes "0000001a"))).value ≡ 0x1a)
    × (folded_of 16 (bit_and (lanes 8 (bytes "0000001a")) 0x0f0f0f0f0f0f0f0f + bit_and (lanes 8 (bytes "0000001a")) 0x4040404040404040 / 64 * 8) ≡ 0x19)
unfolding digit_of digits_in lanes
group_of = (refl, refl)

-- `couple_in`: eight bits cut out for a digit of the second number, not four
couple_in : (couple_of (lanes 8 (bytes "1f 20 3 ")) ≡ couple 0x1f 0x20 2 5)
    × (couple 0x1f (nibbles_of (lanes 8 (bytes "1f 20 3 ")) / 2 ^ (32 - 4 * 5) % 2 ^ (8 * 2)) 2 5 ≡ couple 0x1f 0xf020 2 5)
unfolding count_trailing_zeros lanes ends_of nibbles_of couple_of
couple_in = (refl, refl)

-- `end_in`: the place counted in half bytes
end_in_lem : (end_in (lanes 8 (bytes "12 34 56")) ≡ 2) × (count_trailing_zeros 64 (ends_of (lanes 8 (bytes "12 34 56"))) / 4 ≡ 5)
unfolding count_trailing_zeros lanes ends_of end_in
end_in_lem = (refl, refl)

-- `hexes_in`: of nine digits the first eight read
hexes_in : (hexes_of (bytes "123456789") ≡ record { value = 0; count = 0 })
    × (hexes_by (digits_in 16 0 0 (take 8 (bytes "123456789"))) ≡ record { value = 0x12345678; count = 8 })
unfolding digit_of digits_in hexes_of
hexes_in = (refl, refl)
