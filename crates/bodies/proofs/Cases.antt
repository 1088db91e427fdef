-- Closed cases of the functions that only our own crates call: the right answer, and what a wrong program would have answered there. Assumes nothing.
use mathlib.Core.Path.{◌≡◌, refl}
use mathlib.Core.List.{[]}
use Rattle.facts.specs.Text.{bytes}
use Rattle.tokens.specs.Tokens.{class_of, run_end, run_at, token_of, token_from, token_at}
use Rattle.tokens.specs.Listed.{tokens_in, tokens_from, tokens_of}
use Rattle.digits.specs.Digits.{digit_of, digits_in}
use Rattle.numbers.specs.Whole.{whole_of}
use Rattle.layout.specs.declared.Refusal.{Refusal}
use Rattle.layout.specs.Items.{face, given}
use Rattle.layout.specs.Reading.{got, bad, left_of, right_of, word_of, rows_of, enclosed_of}
use Rattle.layout.specs.Sections.{hex_of, facing_of, body_of}
use Rattle.bodies.specs.Bodies.{forget}

-- `body_at`: the left cell of a face not read
body_at :
    (forget (body_of 9 face 2 1 (given 2) (tokens_of (bytes "(1 2 0 1)"))) ≡ got tt [])
    × (forget (enclosed_of 9 (rows_of 9 (hex_of 9) 3) 1 (tokens_of (bytes "(1 2 0 1)"))) ≡ bad Refusal.Grammar 7)
unfolding class_of run_end run_at token_of token_from token_at tokens_in tokens_from digit_of digits_in whole_of left_of right_of word_of rows_of hex_of facing_of body_of
body_at = (refl, refl)
