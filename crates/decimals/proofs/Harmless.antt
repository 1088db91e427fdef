-- A mild coordinate is good: with at most 18 digits and a power of at most 2 it is kept, whatever they are. Assumes nothing.
use Rattle.std.specs.Prelude.{Option, Some, None}
use Rattle.decimals.specs.Coordinate.{decimal}
use Prim.Native.Nat.{ℕ, ◌+◌, ◌^◌, ◌≤◌, ◌<◌}
use native.Mathlib.Nat.{pow-zero, pow-le-pow_right, mul-one}
use native.Mathlib.Omega.{arith}
use mathlib.Core.Path.{◌≡◌, refl, sym, ap, ◌∙◌}
use mathlib.Core.List.{List, [], ◌∷◌}
use mathlib.Core.Bool.{Bool, true, false}
use borrow.Author.Tests.{le-leb, eqb-true, eqb-false}
use lib.Dec.{lit<, leb, eqb}
use lib.IntN.{ℤ, pos, negsuc, neg_ℤ, ◌+ℤ◌, ◌-ℤ◌}
use lib.ListN.{length}
use lib.Signed.{mag}
use Rattle.facts.proofs.Branch.{split, either, both, differ}
use Rattle.facts.proofs.Decides.{and_split}
use Rattle.facts.proofs.Signed.{mag_neg, mag_sum}
use Rattle.decimals.specs.declared.decimal.Decimal.{Decimal}
use Rattle.digits.specs.Digits.{Digits}
use Rattle.decimals.specs.Coordinate.{sign_of, sign_in, fraction_in, is_mark, reading_by, front_of, back_of, in_range, keep, kept, keep_by}
use Rattle.decimals.specs.Lead.{Leading, marked_in, power_in, tens_of, lead_of}
use Rattle.decimals.specs.Mild.{few_digits, small_power, mild_of}
use Rattle.digits.proofs.Digits.{within_is, digits_in_below, digits_in_after}
use Rattle.decimals.proofs.Tens.{cut_as, at_least, pos_of, few}
use Rattle.decimals.proofs.Scaled.{Tens, tens_of_lem}
use Rattle.decimals.proofs.Value.{keep_zero, keep_tens, fitted_in}
use Rattle.decimals.proofs.Readings.{some_digits, few_small, tens_is, mild_sign}

-- ---- what is kept of a number of few digits
pub record Kept (d : Option Decimal) : Type 0 where
  pub mantissa : ℤ
  pub exponent : ℤ
  pub is : d ≡ decimal mantissa exponent

in_range_lem : (e : ℤ) → mag e < 400 → in_range e ≡ true
unfolding in_range
in_range_lem (pos n) h = le-leb n 400 (omega arith)
in_range_lem (negsuc n) h = rw (le-leb n 399 (omega arith))

module _ (n : Bool) (v : ℕ) (e : ℤ) (less : v < 10 ^ 18) (near : mag e < 300) where
  cut_kept : Tens v → Kept (keep n v e)
  cut_kept t =
      let z : t.zeros < 18 + 0 = few t.core t.zeros v 0 less (record { whole = rw (pow-zero, mul-one) t.whole; some = pos_of t.core t.ends; less = core }) in
      record {
        mantissa = sign_of n t.core;
        exponent = e +ℤ pos t.zeros;
        is =
            keep_tens n v t.core t.zeros e t.whole t.ends
            ∙ sym (fitted_in n (cut_as t.core t.zeros) e core (in_range_lem (e +ℤ pos t.zeros) (omega (arith, z, near, mag_sum e (pos t.zeros)))));
      }
    where
      core : t.core < 10 ^ 18
      core = omega (arith, less, t.whole, at_least t.core t.zeros)

  pub few_kept : Kept (keep n v e)
  few_kept =
      split (eqb v 0) (λ p. record { mantissa = pos 0; exponent = pos 0; is = sym (keep_zero n v e (eqb-true v 0 p)) })
      (λ p. cut_kept (tens_of_lem v v (omega arith) (omega (arith, eqb-false v 0 p))))

-- ---- the power
record Near (p : Option ℤ) : Type 0 where
  pub tens : ℤ
  pub is : p ≡ Some tens
  pub less : mag tens < 100

small_near : (l : List ℕ) → small_power l ≡ true → Near (power_in l).power
unfolding small_power power_in marked_in
small_near [] = λ _. record { tens = pos 0; is = refl; less = lit< tt }
small_near (b ∷ w) =
    both (λ t (x : Leading). t ≡ true → Near x.power) (is_mark b)
    (λ _ h. let c = within_is 1 2 (front_of w).count h in
    record {
      tens = sign_of (sign_in w).negative (front_of w).value;
      is = tens_is (sign_in w).negative (front_of w) c.0 (omega (arith, c));
      less = mild_sign (sign_in w).negative (front_of w).value (few_small (sign_in w).rest 2 c.1);
    })
    (λ _ _. record { tens = pos 0; is = refl; less = lit< tt })

-- ---- the digits
fraction_less : (v k : ℕ) (l : List ℕ) → v < 10 ^ k → (fraction_in v l).value < 10 ^ (k + (fraction_in v l).count)
unfolding fraction_in
fraction_less v k [] h = let z : k ≡ k + 0 = omega arith in rw z at h
fraction_less v k (b ∷ l) h =
    either (λ (d : Digits). d.value < 10 ^ (k + d.count)) (eqb b 46) (λ _. digits_in_after 10 l v k h)
    (λ _. let z : k ≡ k + 0 = omega arith in rw z at h)

back_less : (w : List ℕ) → (front_of w).count + (back_of w).count ≤ 18 → (back_of w).value < 10 ^ 18
back_less w h =
    omega (
      arith,
      fraction_less (front_of w).value (front_of w).count (front_of w).rest (digits_in_below 10 (sign_in w).rest 0 0 (rw pow-zero (lit< tt))),
      pow-le-pow_right {n = 10} (lit< tt) {i = (front_of w).count + (back_of w).count} {j = 18} h,
    )

-- ---- all of it
abbrev place_of : Option ℕ → ℕ
place_of (Some n) = n
place_of None = 0

abbrev is_to : Option ℕ → Bool
is_to (Some n) = true
is_to None = false

pub record Harmless (w : List ℕ) (n : ℕ) : Type 0 where
  pub kept : Kept (lead_of w).value
  pub next : (lead_of w).next ≡ n

module _ (w : List ℕ) where
  decimal_is : leb (length w) 64 ≡ true → (lead_of w).value ≡ kept (reading_by (sign_in w).negative (front_of w).count (back_of w) (tens_of w).power)
  unfolding lead_of
  decimal_is h = rw (h, lead_of)

  lead_by : leb (length w) 64 ≡ true → ((front_of w).count + (back_of w).count ≡ 0 → ⊥) → (t : Near (tens_of w).power)
      → Kept (keep (sign_in w).negative (back_of w).value (t.tens -ℤ pos (back_of w).count)) → Kept (lead_of w).value
  lead_by l n t k =
      record {
        mantissa = k.mantissa;
        exponent = k.exponent;
        is =
            decimal_is l ∙ some_digits (sign_in w).negative (front_of w).count (back_of w) (tens_of w).power n
            ∙ ap (keep_by (sign_in w).negative (back_of w).value (back_of w).count) t.is ∙ k.is;
      }

  lead_kept : leb (length w) 64 ≡ true → few_digits w ≡ true → small_power (back_of w).rest ≡ true → Kept (lead_of w).value
  lead_kept l f p =
      let d = within_is 1 18 ((front_of w).count + (back_of w).count) f in
      let t = small_near (back_of w).rest p in
      lead_by l (λ z. omega (arith, d, z)) t
      (few_kept (sign_in w).negative (back_of w).value (t.tens -ℤ pos (back_of w).count) (back_less w d.1)
      (omega (arith, t.less, d, mag_sum t.tens (neg_ℤ (pos (back_of w).count)), mag_neg (back_of w).count)))

  -- the law
  pub mild_harmless : (n : ℕ) → mild_of w ≡ Some n → Harmless w n
  unfolding mild_of
  mild_harmless n e =
      either (λ r. r ≡ Some n → Harmless w n) _
      (λ p q. let a = and_split (leb (length w) 64) _ p in
      let b = and_split (few_digits w) (small_power (back_of w).rest) a.1 in
      record { kept = lead_kept a.0 b.0 b.1; next = ap place_of q })
      (λ _ q. differ false (ap is_to q) refl) e
