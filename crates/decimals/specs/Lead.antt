-- [01:Tokens], coordinates: the one at the start of some bytes, and where it stops, executable. Assumes nothing.
-- What a whole word says is in Coordinate; proofs/Led shows that the bytes up to there are a word that says the same.
use Rattle.std.specs.Prelude.{ℕ, ◌-◌, List, [], ◌∷◌, Bool, true, false, ◌||◌, length, leb, eqb, pos, ℤ, Option, Some, None}
use Rattle.sizes.specs.Sizes.{coordinate_bytes}
use Rattle.decimals.specs.declared.decimal.Decimal.{Decimal}
use Rattle.facts.specs.declared.Taken.{Taken}
use Rattle.digits.specs.Digits.{within, Digits}
use Rattle.decimals.specs.Coordinate.{sign_of, sign_in, is_mark, reading_by, front_of, back_of, kept}

-- a byte that a coordinate may have: a digit, the point, the `e` or a sign
abbrev pub is_part : ℕ → Bool
is_part b = within 48 57 b || (eqb b 46 || (is_mark b || (eqb b 43 || eqb b 45)))

-- a power at the start of some bytes, and the bytes behind it
pub record Leading : Type 0 where
  pub power : Option ℤ
  pub rest : List ℕ

abbrev pub leading : Option ℤ → List ℕ → Leading
leading p r = record { power = p; rest = r }

-- "1 to 3 digits"
abbrev pub tens_by : Bool → Digits → Option ℤ
tens_by n d = elim (within 1 3 d.count) [ true ↦ Some (sign_of n d.value) | false ↦ None ]

-- "an optional sign and 1 to 3 digits", behind the `e`: all digits there are read
unfoldable pub marked_in : List ℕ → Leading
marked_in w = leading (tens_by (sign_in w).negative (front_of w)) (front_of w).rest

-- "optionally `e` or `E`": with none the power is 0, and nothing is read
unfoldable pub power_in : List ℕ → Leading
power_in [] = leading (Some (pos 0)) []
power_in (b ∷ w) = elim (is_mark b) [ true ↦ marked_in w | false ↦ leading (Some (pos 0)) (b ∷ w) ]

-- what is kept of the number d, and the place where r, the last of the bytes, begins
abbrev pub lead_to : List ℕ → Option Decimal → List ℕ → Taken (Option Decimal)
lead_to w d r = record { value = d; next = length w - length r }

-- the power behind the digits
abbrev pub tens_of : List ℕ → Leading
tens_of w = power_in (back_of w).rest

-- "optional sign (`+` or `-`), digits with at most one point, at least one digit, optionally `e`..", as far as the bytes go on so.
-- What stands behind them may be anything. "At most 64 bytes": more are not looked at.
unfoldable pub lead_of : List ℕ → Taken (Option Decimal)
lead_of w =
    elim (leb (length w) coordinate_bytes) [
      | true ↦ lead_to w (kept (reading_by (sign_in w).negative (front_of w).count (back_of w) (tens_of w).power)) (tens_of w).rest
      | false ↦ record { value = None; next = 0 }
    ]
