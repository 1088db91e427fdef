-- Places behind digits, a point and a small power: what the functions that look at a coordinate's shape owe one another.
-- Nothing here has to be believed: the public contracts do not cite it. Assumes nothing.
use Rattle.std.specs.Prelude.{ℕ, ◌+◌, ◌-◌, List, true, false, length, drop, Option, Some, None}
use Rattle.digits.specs.Digits.{digits_in}
use Rattle.decimals.specs.Lead.{power_in}
use Rattle.decimals.specs.Mild.{small_power}
use Rattle.coordinates.specs.Parts.{starts}

-- the place behind the decimal digits from `at` on
unfoldable pub behind_of : List ℕ → ℕ → ℕ
behind_of w at = at + (digits_in 10 0 0 (drop at w)).count

-- the place behind a point, where one stands there
unfoldable pub point_of : List ℕ → ℕ → ℕ
point_of w at = elim (starts 46 (drop at w)) [ true ↦ at + 1 | false ↦ at ]

-- the place behind a small power, at the start of the last of the bytes
unfoldable pub tens_to : List ℕ → List ℕ → Option ℕ
tens_to w l = elim (small_power l) [ true ↦ Some (length w - length (power_in l).rest) | false ↦ None ]
