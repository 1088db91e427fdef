-- Two hexadecimal numbers among eight bytes, one byte between them and one behind the second. No mesher need read it: only contracts of functions that look at eight bytes at once cite it, none of reading. Assumes nothing.
use Rattle.std.specs.Prelude.{ℕ, ◌+◌, ◌-◌, ◌*◌, ◌/◌, ◌%◌, ◌^◌, true, false, ◌&&◌, leb, ltb, eqb, Option, Some, None}
use Rattle.std.specs.Int.Bits.{bit_and, bit_or, bit_xor}
use Rattle.std.specs.Int.Count.{count_trailing_zeros}
use Rattle.digits.specs.declared.couple.Couple.{Couple}
use Rattle.digits.specs.declared.group.Base.{Base}
use Rattle.digits.specs.Lanes.{marks_of, values_of, folded_of}

-- the highest bit of each lane whose byte has neither bit 4 nor bit 6: of the bytes that end a word none has, of the digits each
unfoldable pub ends_of : ℕ → ℕ
ends_of x = bit_xor (bit_and (bit_or (x * 2 ^ 1 % 2 ^ 64) (x * 2 ^ 3 % 2 ^ 64)) 0x8080808080808080) 0x8080808080808080

-- the eight bytes as digits, four bits each; what is no digit counts as some digit
unfoldable pub nibbles_of : ℕ → ℕ
nibbles_of x = folded_of 16 (bit_and (values_of Base.Sixteen x) 0x0f0f0f0f0f0f0f0f)

-- the first marked lane, and the second; 8 where there is none
abbrev pub gap_of : ℕ → ℕ
gap_of t = count_trailing_zeros 64 t / 8

abbrev pub end_of : ℕ → ℕ
end_of t = count_trailing_zeros 64 (bit_and t (t - 1)) / 8

-- where the first word ends, if nothing but digits and bytes that end words stand there
unfoldable pub end_in : ℕ → ℕ
end_in x = gap_of (ends_of x)

abbrev pub couple : ℕ → ℕ → ℕ → ℕ → Option Couple
couple f v g e = Some (record { first = f; second = v; gap = g; end = e })

-- the digits before the first marked lane, and those between the two
abbrev pub couple_by : ℕ → ℕ → ℕ → Option Couple
couple_by n g e =
    elim (leb 1 g && (leb e 7 && ltb (g + 1) e)) [
      | true ↦ couple (n / 2 ^ (32 - 4 * g)) (n / 2 ^ (32 - 4 * e) % 2 ^ (4 * (e - (g + 1)))) g e
      | false ↦ None
    ]

unfoldable pub couple_of : ℕ → Option Couple
couple_of x =
    elim (ltb 0 (ends_of x) && eqb (marks_of Base.Sixteen x) (ends_of x)) [
      | true ↦ couple_by (nibbles_of x) (gap_of (ends_of x)) (end_of (ends_of x))
      | false ↦ None
    ]
