-- [01:Tokens], whole numbers: a word's digits to a base. To be believed: all of this file. Assumes nothing.
use Rattle.std.specs.Prelude.{ℕ, List, [], ◌∷◌, Bool, true, false, ◌&&◌, Option, Some, None}
use Rattle.digits.specs.Digits.{within, Digits, digits_in}

abbrev pub is_empty : List ℕ → Bool
is_empty [] = true
is_empty (b ∷ w) = false

-- a word of 1 to `most` digits and nothing else; "no prefix, no sign. Leading zeros are fine."
abbrev pub whole_by : ℕ → Digits → Option ℕ
whole_by most d = elim (is_empty d.rest && within 1 most d.count) [ true ↦ Some d.value | false ↦ None ]

unfoldable pub whole_of : ℕ → ℕ → List ℕ → Option ℕ
whole_of base most w = whole_by most (digits_in base 0 0 w)

-- "The id is 1 to 5 decimal digits."
abbrev pub section_id_of : List ℕ → Option ℕ
section_id_of w = whole_of 10 5 w

-- "All other whole numbers are hexadecimal, 1 to 8 digits"
abbrev pub hexadecimal_of : List ℕ → Option ℕ
hexadecimal_of w = whole_of 16 8 w

-- a coordinate's power, behind its sign: "1 to 3 digits"
abbrev pub power_digits_of : List ℕ → Option ℕ
power_digits_of w = whole_of 10 3 w
