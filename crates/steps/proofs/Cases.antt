-- Closed cases of the functions that only our own crates call: the right answer, and what a wrong program would have answered there. Assumes nothing.
use Rattle.std.specs.Prelude.{Ok}
use mathlib.Core.Path.{◌≡◌, refl}
use mathlib.Core.List.{[], ◌∷◌}
use lib.IntN.{pos}
use Rattle.facts.specs.Text.{bytes}
use Rattle.tokens.specs.Tokens.{class_of, run_end, run_at, token_of, token_from, token_at}
use Rattle.tokens.specs.Listed.{left, word, tokens_in, tokens_from, tokens_of}
use Rattle.digits.specs.Digits.{digit_of, digits_in}
use Rattle.numbers.specs.declared.sort.Sort.{Sort}
use Rattle.numbers.specs.Whole.{whole_of}
use Rattle.numbers.specs.Bad.{bad_at}
use Rattle.decimals.specs.Coordinate.{sign_in, fraction_in, power_of, reading_of, cut, in_range, fitted, keep, coordinate_of}
use Rattle.layout.specs.declared.Refusal.{Refusal}
use Rattle.layout.specs.Reading.{got, bad, left_of, right_of, word_of, number_by, paired, pair_word}
use Rattle.spots.specs.Pasts.{taken, past_view}
use Rattle.steps.specs.Views.{close_view, whole_for}

-- `left_at`: the `(` not passed
left_at :
    (left_of 2 (tokens_of (bytes "(2")) ≡ got tt (word 1 (bytes "2") ∷ []))
    × (past_view (bytes "(2") (Ok 0) ≡ got tt (left 0 ∷ word 1 (bytes "2") ∷ []))
unfolding class_of run_end run_at token_of token_from token_at tokens_in tokens_from left_of
left_at = (refl, refl)

-- `right_at`: the `)` placed behind itself
right_at : (right_of 1 (tokens_of (bytes ")")) ≡ got 0 []) × (close_view (bytes ")") (taken 1 1) ≡ got 1 [])
unfolding class_of run_end run_at token_of token_from token_at tokens_in tokens_from right_of
right_at = (refl, refl)

-- `number_at`: a hexadecimal number read as the decimal of an id
number_at :
    (number_by 2 (whole_for Sort.Hexadecimal) Sort.Hexadecimal (tokens_of (bytes "10")) ≡ got (record { value = 16; at = 0 }) [])
    × (number_by 2 (whole_for Sort.SectionId) Sort.SectionId (tokens_of (bytes "10")) ≡ got (record { value = 10; at = 0 }) [])
unfolding class_of run_end run_at token_of token_from token_at tokens_in tokens_from digit_of digits_in whole_of word_of
number_at = (refl, refl)

-- `pair_at`: the blanks before a coordinate read with it
pair_at :
    (pair_word 2 (tokens_of (bytes " 5")) ≡ got (record { mantissa = pos 5; exponent = pos 0 }) [])
    × (paired 2 (coordinate_of (bytes " 5")) 1 (bytes " 5") [] ≡ bad Refusal.Number 1)
unfolding class_of run_end run_at token_of token_from token_at tokens_in tokens_from digit_of digits_in bad_at sign_in fraction_in power_of reading_of cut in_range fitted keep coordinate_of word_of
pair_at = (refl, refl)
