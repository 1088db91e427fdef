-- Closed cases of the functions that only our own crates call: the right answer, and what a wrong program would have answered there. Assumes nothing.
use Rattle.std.specs.Prelude.{ℕ, Option, Some, None}
use Rattle.decimals.specs.Coordinate.{decimal}
use mathlib.Core.Path.{◌≡◌, refl}
use mathlib.Core.Bool.{true, false}
use lib.IntN.{pos, negsuc}
use Rattle.facts.specs.Text.{bytes}
use Rattle.digits.specs.Digits.{within, digit_of, digits_in}
use Rattle.decimals.specs.Coordinate.{sign_in, fraction_in, power_of, front_of, back_of, reading_of, cut, in_range, fitted, keep, coordinate_of}
use Rattle.decimals.specs.Lead.{marked_in, power_in, lead_to, lead_of}
use Rattle.decimals.specs.Mild.{small_power, mild_of}

-- `coordinate`: the zeros at the end of the digits kept
coordinate : (coordinate_of (bytes "1.50") ≡ decimal (pos 15) (negsuc 0)) × (fitted false (record { m = 150; zeros = 0 }) (negsuc 1) ≡ decimal (pos 150) (negsuc 1))
unfolding digit_of digits_in sign_in fraction_in power_of reading_of cut in_range fitted keep coordinate_of
coordinate = (refl, refl)

-- `lead`: the place before the power answered, not the one behind it
lead : (lead_of (bytes "1e2)") ≡ record { value = decimal (pos 1) (pos 2); next = 3 })
    × (lead_to (bytes "1e2)") (decimal (pos 1) (pos 2)) (back_of (bytes "1e2)")).rest ≡ record { value = decimal (pos 1) (pos 2); next = 1 })
unfolding digit_of digits_in sign_in fraction_in cut in_range fitted keep marked_in power_in lead_of
lead = (refl, refl)

-- `mild_in`: a power of three digits taken for a small one
mild_in : (mild_of (bytes "1e500") ≡ None) × (◌≡◌ {A = Option ℕ} (elim (within 1 3 (front_of (bytes "500")).count) [ true ↦ Some 5 | false ↦ None ]) (Some 5))
unfolding digit_of digits_in sign_in fraction_in small_power mild_of
mild_in = (refl, refl)
