-- What is read and kept, case by case. Assumes nothing.
use Rattle.std.specs.Prelude.{ℤ, Option, Some, None}
use Prim.Native.Nat.{ℕ, ◌+◌, ◌^◌, ◌≤◌, ◌<◌}
use native.Mathlib.Nat.{pow-zero, pow-le-pow_right}
use native.Mathlib.Omega.{arith}
use mathlib.Core.Path.{◌≡◌, refl}
use mathlib.Core.List.{List}
use mathlib.Core.Bool.{Bool, true, false}
use borrow.Author.Tests.{le-leb, lt-leb, eq-eqb, ne_eqb}
use lib.Dec.{lit<}
use lib.ListN.{length}
use lib.Signed.{mag}
use Rattle.facts.proofs.Signed.{mag_neg}
use Rattle.digits.specs.Digits.{Digits, digits_in}
use Rattle.decimals.specs.Coordinate.{sign_of, none, reading_by, reading_of, kept, keep_by, coordinate_of}
use Rattle.decimals.specs.Lead.{tens_by}
use Rattle.digits.proofs.Digits.{digits_in_below}

-- ---- a word of at most 64 bytes
module _ (w : List ℕ) where
  pub long_not : 64 < length w → None ≡ coordinate_of w
  unfolding coordinate_of
  long_not h = rw (lt-leb (length w) 64 h, coordinate_of)

  pub short_is : length w ≤ 64 → kept (reading_of w) ≡ coordinate_of w
  unfolding coordinate_of
  short_is h = rw (le-leb (length w) 64 h, coordinate_of)

-- ---- at least one digit
module _ (n : Bool) (c : ℕ) (b : Digits) where
  pub no_digits : (q : Option ℤ) → c + b.count ≡ 0 → reading_by n c b q ≡ none
  no_digits (Some k) h = rw (eq-eqb (c + b.count) 0 h, reading_by)
  no_digits None h = refl

  pub some_digits : (q : Option ℤ) → (c + b.count ≡ 0 → ⊥) → kept (reading_by n c b q) ≡ keep_by n b.value b.count q
  some_digits (Some k) h = rw (ne_eqb (c + b.count) 0 h, reading_by)
  some_digits None h = refl

-- ---- up to three digits
pub few_small : (w : List ℕ) (most : ℕ) → (digits_in 10 0 0 w).count ≤ most → (digits_in 10 0 0 w).value < 10 ^ most
few_small w most h =
    omega (arith, digits_in_below 10 w 0 0 (rw pow-zero (lit< tt)), pow-le-pow_right {n = 10} (lit< tt) {i = (digits_in 10 0 0 w).count} {j = most} h)

module _ (n : Bool) (d : Digits) where
  pub tens_few : d.count < 1 → tens_by n d ≡ None
  tens_few h = rw (lt-leb 1 d.count h, tens_by)

  pub tens_many : 3 < d.count → tens_by n d ≡ None
  tens_many h = rw (le-leb 1 d.count (omega arith), lt-leb d.count 3 h, tens_by)

  pub tens_is : 1 ≤ d.count → d.count ≤ 3 → tens_by n d ≡ Some (sign_of n d.value)
  tens_is l m = rw (le-leb 1 d.count l, le-leb d.count 3 m, tens_by)

pub mild_sign : (n : Bool) (k : ℕ) {most : ℕ} → k < most → mag (sign_of n k) < most
mild_sign true k h = omega (arith, mag_neg k)
mild_sign false k h = h
