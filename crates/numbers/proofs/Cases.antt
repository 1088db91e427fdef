-- Closed cases of the functions that only our own crates call: the right answer, and what a wrong program would have answered there. Assumes nothing.
use Rattle.std.specs.Prelude.{Some, None}
use Prim.Native.Nat.{ℕ, suc, ◌-◌}
use mathlib.Core.Path.{◌≡◌, refl}
use mathlib.Core.Bool.{true, false}
use Rattle.facts.specs.Text.{bytes}
use Rattle.digits.specs.Digits.{within, digit_of, digits_in}
use Rattle.numbers.specs.declared.sort.Sort.{Sort}
use Rattle.numbers.specs.Bad.{bad_at}
use Rattle.numbers.specs.Whole.{whole_of, hexadecimal_of, section_id_of, power_digits_of}

-- `hexadecimal`: a whole number read as decimal
hexadecimal : (hexadecimal_of (bytes "10") ≡ Some 16) × (whole_of 10 8 (bytes "10") ≡ Some 10)
unfolding digit_of digits_in whole_of
hexadecimal = (refl, refl)

-- `section_id`: an id read as hexadecimal
section_id : (section_id_of (bytes "10") ≡ Some 10) × (whole_of 16 5 (bytes "10") ≡ Some 16)
unfolding digit_of digits_in whole_of
section_id = (refl, refl)

-- `power_digits`: a power of four digits taken
power_digits : (power_digits_of (bytes "1000") ≡ None) × (whole_of 10 4 (bytes "1000") ≡ Some 1000)
unfolding digit_of digits_in whole_of
power_digits = (refl, refl)

-- `digit_of`: the capital `A`, which is byte 65, taken for no digit
digit_of_lem : (digit_of 65 ≡ 10) × ◌≡◌ {A = ℕ} (elim (within 66 70 65) [ true ↦ 65 - 55 | false ↦ 16 ]) 16
unfolding digit_of
digit_of_lem = (refl, refl)

-- `bad_at`: a refusal that points at the word's second byte
bad_at_lem : (bad_at Sort.Coordinate (bytes "1.x") ≡ 0) × (suc (bad_at Sort.Coordinate (bytes "1.x")) ≡ 1)
unfolding bad_at
bad_at_lem = (refl, refl)
