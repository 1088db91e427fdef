-- Closed cases: the paper's coordinate words; and of the function that only our own crates call what its contract answers on an input, and what a wrong program would have answered there. Assumes nothing.
use Rattle.std.specs.Prelude.{Option, None}
use Rattle.decimals.specs.Coordinate.{decimal}
use Prim.Native.Nat.{ℕ}
use mathlib.Core.Path.{◌≡◌, refl, ap, ◌∙◌}
use mathlib.Core.List.{List, [], ◌∷◌, map}
use lib.IntN.{pos, negsuc, nat_abs, ◌+ℤ◌}
use Rattle.facts.specs.Text.{bytes}
use Rattle.digits.specs.Digits.{digit_of, digits_in}
use Rattle.numbers.specs.Whole.{whole_of}
use Rattle.decimals.specs.declared.decimal.Decimal.{Decimal}
use Rattle.decimals.specs.Coordinate.{sign_in, fraction_in, marked_of, power_of, reading_of, cut, in_range, fitted, keep, coordinate_of}
use Rattle.decimals.proofs.signed.magnitude.Reads as magnitudes

pub record Case : Type 0 where
  pub word : List ℕ
  pub kept : Option Decimal

abbrev is : List ℕ → Option Decimal → Case
is w d = record { word = w; kept = d }

-- [01:Both sides of each line], those that are not marked P; the others are in the table of `vectors`
abbrev pub table : List Case
table =
    is (bytes ".5") (decimal (pos 5) (negsuc 0))
    ∷ is (bytes "5.") (decimal (pos 5) (pos 0))
    ∷ is (bytes ".") None
    ∷ is (bytes "1e") None
    ∷ is (bytes "1e1000") None
    ∷ is (bytes "nan") None
    -- "Eighteen nines pass, nineteen don't."
    ∷ is (bytes "999999999999999999") (decimal (pos 999999999999999999) (pos 0))
    ∷ is (bytes "9999999999999999999") None
    -- besides: the sign and the zeros at the end; the kept exponent is judged, 401 here, and not the written one
    ∷ is (bytes "-120") (decimal (negsuc 11) (pos 1))
    ∷ is (bytes "100e399") None
    ∷ is (bytes "1e401") None
    ∷ []

pub cases : map (λ c. coordinate_of c.word) table ≡ map (λ c. c.kept) table
unfolding digit_of digits_in whole_of sign_in fraction_in marked_of power_of reading_of cut in_range fitted keep coordinate_of
cases = refl

-- `magnitude`: one added to a number below zero, so that it can be negated, and not added again behind that
magnitude :
    ((κ : _) (a : _) (r : _) (x : _) → magnitudes.Post κ a r x → a.0 ≡ negsuc 4 → ◌≡◌ {A = ℕ} r 5)
    × (nat_abs (negsuc 4 +ℤ pos 1) ≡ 4)
magnitude = (λ κ a r x p five. p ∙ ap nat_abs five, refl)
