-- [01:Tokens], coordinates: one that is good whatever it says, known by its shape alone, executable. Assumes nothing.
-- proofs/Harmless shows that such a one is kept.
use Rattle.std.specs.Prelude.{ℕ, ◌+◌, List, [], ◌∷◌, Bool, true, false, ◌&&◌, length, leb, Option, Some, None}
use Rattle.sizes.specs.Sizes.{coordinate_bytes, coordinate_digits}
use Rattle.digits.specs.Digits.{within}
use Rattle.decimals.specs.Coordinate.{is_mark, front_of, back_of}
use Rattle.decimals.specs.Lead.{lead_of}

-- "at least one digit", and "at most 18" with the zeros that would be dropped
abbrev pub few_digits : List ℕ → Bool
few_digits w = within 1 coordinate_digits ((front_of w).count + (back_of w).count)

-- "optionally `e` or `E`, an optional sign and 1 to 3 digits", here at most 2
unfoldable pub small_power : List ℕ → Bool
small_power [] = true
small_power (b ∷ w) = elim (is_mark b) [ true ↦ within 1 2 (front_of w).count | false ↦ true ]

-- the place behind such a coordinate at the start of some bytes, whatever follows it
unfoldable pub mild_of : List ℕ → Option ℕ
mild_of w =
    elim (leb (length w) coordinate_bytes && (few_digits w && small_power (back_of w).rest)) [ true ↦ Some (lead_of w).next | false ↦ None ]
