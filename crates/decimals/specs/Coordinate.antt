-- [01:Tokens], coordinates: what a word says and the pair that is kept of it, executable. Assumes nothing.
-- What it means is said in Value, which knows no computation; proofs/Exactly shows that the two agree.
use Rattle.std.specs.Prelude.{ℕ, zero, suc, ◌+◌, ◌/◌, ◌%◌, ◌^◌, List, [], ◌∷◌, Bool, true, false, ◌&&◌, ◌||◌, length, ltb, leb, eqb, ℤ, pos, negsuc, neg_ℤ, ◌+ℤ◌, ◌-ℤ◌, Option, Some, None}
use Rattle.std.specs.Int.Signed.{le_z}
use Rattle.sizes.specs.Sizes.{coordinate_bytes, coordinate_digits}
use Rattle.decimals.specs.declared.decimal.Cut.{Cut}
use Rattle.decimals.specs.declared.decimal.Decimal.{Decimal}
use Rattle.digits.specs.Digits.{Digits, digits, digits_in}
use Rattle.numbers.specs.Whole.{whole_of}

-- a decimal that is kept
abbrev pub decimal : ℤ → ℤ → Option Decimal
decimal m e = Some (record { mantissa = m; exponent = e })

abbrev pub sign_of : Bool → ℕ → ℤ
sign_of true m = neg_ℤ (pos m)
sign_of false m = pos m

-- "optional sign (`+` or `-`)", and the bytes behind it
pub record Signed : Type 0 where
  pub negative : Bool
  pub rest : List ℕ

abbrev pub signed : Bool → List ℕ → Signed
signed n r = record { negative = n; rest = r }

unfoldable pub sign_in : List ℕ → Signed
sign_in [] = signed false []
sign_in (b ∷ w) = elim (eqb b 45) [ true ↦ signed true w | false ↦ elim (eqb b 43) [ true ↦ signed false w | false ↦ signed false (b ∷ w) ] ]

-- "digits with at most one point": those behind the point, where one stands, with the digits v before it
unfoldable pub fraction_in : ℕ → List ℕ → Digits
fraction_in v [] = digits v 0 []
fraction_in v (b ∷ w) = elim (eqb b 46) [ true ↦ digits_in 10 v 0 w | false ↦ digits v 0 (b ∷ w) ]

-- "optionally `e` or `E`, an optional sign and 1 to 3 digits": all that is left of the word
abbrev pub is_mark : ℕ → Bool
is_mark b = eqb b 101 || eqb b 69

abbrev pub power_by : Bool → Option ℕ → Option ℤ
power_by n (Some k) = Some (sign_of n k)
power_by n None = None

unfoldable pub marked_of : List ℕ → Option ℤ
marked_of w = power_by (sign_in w).negative (whole_of 10 3 (sign_in w).rest)

unfoldable pub power_of : List ℕ → Option ℤ
power_of [] = Some (pos 0)
power_of (b ∷ w) = elim (is_mark b) [ true ↦ marked_of w | false ↦ None ]

-- the value is digits · 10 ^ exponent, or that negated
pub record Parts : Type 0 where
  pub negative : Bool
  pub digits : ℕ
  pub exponent : ℤ

pub data Reading : Type 0 where
  is : Parts → Reading
  none : Reading

abbrev pub parts_of : Bool → ℕ → ℕ → ℤ → Parts
parts_of n v places k = record { negative = n; digits = v; exponent = k -ℤ pos places }

-- "at least one digit"
abbrev pub reading_by : Bool → ℕ → Digits → Option ℤ → Reading
reading_by n before b (Some k) = elim (eqb (before + b.count) 0) [ true ↦ none | false ↦ is (parts_of n b.value b.count k) ]
reading_by n before b None = none

abbrev pub front_of : List ℕ → Digits
front_of w = digits_in 10 0 0 (sign_in w).rest

abbrev pub back_of : List ℕ → Digits
back_of w = fraction_in (front_of w).value (front_of w).rest

unfoldable pub reading_of : List ℕ → Reading
reading_of w = reading_by (sign_in w).negative (front_of w).count (back_of w) (power_of (back_of w).rest)

-- "The mantissa is not divisible by ten": m without the zeros at its end, and z more than their number
unfoldable pub cut : ℕ → ℕ → ℕ → Cut
cut zero m z = record { m = m; zeros = z }
cut (suc f) m z = elim (eqb (m % 10) 0) [ true ↦ cut f (m / 10) (z + 1) | false ↦ record { m = m; zeros = z } ]

-- "the kept exponent lies from −400 to 400"
unfoldable pub in_range : ℤ → Bool
in_range e = le_z (negsuc 399) e && le_z e (pos 400)

-- "After leading and trailing zeros are dropped at most 18 digits may stand."
unfoldable pub fitted : Bool → Cut → ℤ → Option Decimal
fitted n c e =
    elim (ltb c.m (10 ^ coordinate_digits)) [
      | true ↦ elim (in_range (e +ℤ pos c.zeros)) [ true ↦ decimal (sign_of n c.m) (e +ℤ pos c.zeros) | false ↦ None ]
      | false ↦ None
    ]

-- "any zero, `-0` also, is mantissa 0, exponent 0"
unfoldable pub keep : Bool → ℕ → ℤ → Option Decimal
keep n d e = elim (eqb d 0) [ true ↦ decimal (pos 0) (pos 0) | false ↦ fitted n (cut d d 0) e ]

abbrev pub kept : Reading → Option Decimal
kept (is p) = keep p.negative p.digits p.exponent
kept none = None

-- the same of digits v and a power: `places` of the digits stand behind the point
abbrev pub keep_by : Bool → ℕ → ℕ → Option ℤ → Option Decimal
keep_by n v places (Some k) = keep n v (k -ℤ pos places)
keep_by n v places None = None

-- "Coordinate word: at most 64 bytes"
unfoldable pub coordinate_of : List ℕ → Option Decimal
coordinate_of w = elim (leb (length w) coordinate_bytes) [ true ↦ kept (reading_of w) | false ↦ None ]
