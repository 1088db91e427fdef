-- Closed cases of the functions that only our own crates call: the right answer, and what a wrong program would have answered there. Assumes nothing.
use Prim.Native.Nat.{◌/◌}
use mathlib.Core.Path.{◌≡◌, refl}
use lib.Count.{count_trailing_zeros}
use lib.ListN.{take}
use Rattle.facts.specs.Text.{bytes}
use Rattle.tokens.specs.Tokens.{class_of, run_end, run_at, mark_of, quote_of}
use Rattle.digits.specs.Lanes.{lanes}
use Rattle.finds.specs.Quotes.{quotes_of}

-- `mark_from`: behind eight bytes with no mark the ninth passed over
mark_from : (mark_of (bytes "12345678()") 0 ≡ 8) × (mark_of (bytes "12345678()") 9 ≡ 9)
unfolding class_of run_end run_at
mark_from = (refl, refl)

-- `quote_from`: the place behind eight bytes answered where no quote stands in them
quote_from : (quote_of (bytes "12345678 9\"") 0 ≡ 10) × (count_trailing_zeros 64 (quotes_of (lanes 8 (take 8 (bytes "12345678 9\"")))) / 8 ≡ 8)
unfolding class_of run_end run_at count_trailing_zeros lanes
quote_from = (refl, refl)
