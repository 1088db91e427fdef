-- Closed cases of the functions that only our own crates call: the right answer, and what a wrong program would have answered there. Assumes nothing.
use Rattle.std.specs.Prelude.{Some}
use Rattle.decimals.specs.Coordinate.{decimal}
use mathlib.Core.Path.{◌≡◌, refl}
use lib.IntN.{pos, negsuc}
use Rattle.facts.specs.Text.{bytes}
use Rattle.tokens.specs.Tokens.{class_of, run_end, run_at, start_of, ends_word}
use Rattle.digits.specs.Digits.{digit_of, digits_in}
use Rattle.decimals.specs.Coordinate.{sign_in, fraction_in, cut, in_range, fitted, keep}
use Rattle.decimals.specs.Lead.{power_in, lead_of}
use Rattle.decimals.specs.Mild.{small_power, mild_of}
use Rattle.pairs.specs.Pairs.{went_of, led, leads_by, leads_of}

-- `quick_pair`: the word's start answered, not the place behind it
quick_pair : (went_of (bytes " 1.5)") 0 ≡ Some 4) × (Some (start_of (bytes " 1.5)") 0) ≡ Some 1)
unfolding class_of run_end run_at ends_word digit_of digits_in sign_in fraction_in power_in lead_of small_power mild_of went_of
quick_pair = (refl, refl)

-- `quick_lead`: the place counted from the end of the bytes looked at, not from the word's start
quick_lead : (leads_of (bytes " 1.5)") 0 ≡ led (record { mantissa = pos 15; exponent = negsuc 0 }) 4)
    × (leads_by (bytes " 1.5)") 5 3 (decimal (pos 15) (negsuc 0)) ≡ led (record { mantissa = pos 15; exponent = negsuc 0 }) 8)
unfolding class_of run_end run_at ends_word digit_of digits_in sign_in fraction_in cut in_range fitted keep power_in lead_of leads_of
quick_lead = (refl, refl)
