-- Closed cases of the functions that only our own crates call: the right answer, and what a wrong program would have answered there. Assumes nothing.
use Prim.Native.Nat.{◌+◌, ◌-◌}
use mathlib.Core.Path.{◌≡◌, refl}
use Rattle.std.specs.Prelude.{None}
use mathlib.Core.Bool.{true, false}
use Rattle.facts.specs.Text.{bytes}
use Rattle.tokens.specs.Tokens.{class_of, run_end, run_at, ends_word}
use Rattle.digits.specs.Digits.{within, digit_of, digits_in}
use Rattle.digits.specs.Hexes.{hexes_of}
use Rattle.quick.specs.Quick.{known, quick_by, quick_of, digit_hex, known_by, known_of}

-- `quick_hex`: the word's end looked for one byte past its digits
quick_hex : (quick_of (bytes "2g") 0 ≡ None) × (quick_by (bytes "2g") 0 (record { value = 2; count = 1 + 1 }) ≡ known 2 2)
unfolding class_of run_end run_at ends_word digit_of digits_in hexes_of quick_of
quick_hex = (refl, refl)

-- `digit_hex`: the colon, which is the byte behind `9`, taken for a digit
digit_hex_lem : (digit_hex (bytes " : ") 0 ≡ None) × (elim (within 48 58 58) [ true ↦ known (58 - 48) 2 | false ↦ None ] ≡ known 10 2)
unfolding class_of ends_word digit_hex
digit_hex_lem = (refl, refl)

-- `known_hex`: the place one byte behind the word's end answered
known_hex : (known_of (bytes "1f 2") 0 ≡ record { value = 0x1f; next = 2 }) × (known_by 0 (record { value = 0x1f; count = 2 + 1 }) ≡ record { value = 0x1f; next = 3 })
unfolding class_of run_end run_at digit_of digits_in hexes_of known_of
known_hex = (refl, refl)
