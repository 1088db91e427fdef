-- Closed cases of the functions that only our own crates call: the right answer, and what a wrong program would have answered there. Assumes nothing.
use Prim.Native.Nat.{ℕ}
use mathlib.Core.Path.{◌≡◌, refl}
use mathlib.Core.List.{List, [], ◌∷◌, map}
use lib.IntN.{pos}
use Rattle.facts.specs.Text.{bytes}
use Rattle.mesh.specs.Rows.{node_words}
use Rattle.tokens.specs.Tokens.{class_of, run_end, run_at, token_of, token_from, token_at}
use Rattle.tokens.specs.Listed.{Tok, tokens_in, tokens_from, tokens_of}
use Rattle.digits.specs.Digits.{digit_of, digits_in}
use Rattle.decimals.specs.Coordinate.{sign_in, fraction_in, power_of, reading_of, cut, in_range, fitted, keep, coordinate_of}
use Rattle.layout.specs.Reading.{word_of}
use Rattle.again.specs.Again.{many}
use Rattle.points.specs.Points.{Both, set_pairs, pair_taken, pairs_taken, points_taken, coordinates_in}

-- `coordinates_in`: three coordinates in two dimensions too
coordinates_in_lem : (coordinates_in 2 ≡ 2) × (node_words ≡ 3)
coordinates_in_lem = (refl, refl)

abbrev both : List ℕ → List ℕ → Both
both ms es = record { mantissas = map pos ms; exponents = map pos es }

abbrev lent : Both
lent = both (9 ∷ 9 ∷ 9 ∷ []) (9 ∷ 9 ∷ 9 ∷ [])

abbrev text : List Tok
text = tokens_of (bytes "7 20")

-- `put_points`: the third pair of two dimensions left as it was
put_points :
    (set_pairs lent 0 (points_taken 4 (coordinates_in 2) 1 text) ≡ both (7 ∷ 2 ∷ 0 ∷ []) (0 ∷ 1 ∷ 0 ∷ []))
    × (set_pairs lent 0 (pairs_taken 4 2 text).thing ≡ both (7 ∷ 2 ∷ 9 ∷ []) (0 ∷ 1 ∷ 9 ∷ []))
unfolding class_of run_end run_at token_of token_from token_at tokens_in tokens_from digit_of digits_in sign_in fraction_in power_of reading_of cut in_range fitted keep coordinate_of word_of many pair_taken points_taken
put_points = (refl, refl)
