-- Numbers with zeros at their end: m · 10 ^ z, m not divisible by ten. Assumes nothing.
use Prim.Native.Nat.{ℕ, zero, suc, ◌+◌, ◌*◌, ◌/◌, ◌%◌, ◌^◌, ◌≤◌, ◌<◌}
use native.Mathlib.Nat.{pow-zero, pow-suc, one-le-pow, pow-le-pow_right, mul-one, mul-le-mul_right, mul-le-mul_left, mul_assoc, add-zero, mul-mod_left, mul-div_cancel}
use native.Mathlib.Numerals.{add-one}
use native.Mathlib.Omega.{arith}
use lib.Dec.{lit<, ltb}
use lib.Pow.{pow-add}
use mathlib.Core.Path.{◌≡◌, sym, ap, ◌∙◌}
use borrow.Author.Tests.{ne_eqb, ltb-true, ltb-false}
use Rattle.facts.proofs.Branch.{split}
use Rattle.decimals.specs.declared.decimal.Cut.{Cut}
use Rattle.decimals.specs.Coordinate.{cut}

abbrev pub cut_as : ℕ → ℕ → Cut
cut_as m z = record { m = m; zeros = z }

ten_pos : (z : ℕ) → 1 ≤ 10 ^ z
ten_pos z = one-le-pow z 10 (lit< tt)

-- one zero more
pub times_ten : (m z : ℕ) → m * 10 ^ suc z ≡ m * 10 ^ z * 10
times_ten m z = rw pow-suc (sym (mul_assoc m (10 ^ z) 10))

below_tens : (z : ℕ) → z < 10 ^ z
below_tens zero = rw pow-zero (lit< tt)
below_tens (suc z) = let h = below_tens z in rw pow-suc (omega arith)

pub at_least : (m z : ℕ) → m ≤ m * 10 ^ z
at_least m z = rw mul-one at (mul-le-mul_left m (ten_pos z))

pub pos_of : (m : ℕ) → (m % 10 ≡ 0 → ⊥) → 1 ≤ m
pos_of m n = omega arith

module _ (f m z : ℕ) where
  cut_stop : (m % 10 ≡ 0 → ⊥) → cut (suc f) m z ≡ cut_as m z
  unfolding cut
  cut_stop n = rw (ne_eqb _ _ n, cut)

  cut_more : cut (suc f) (m * 10) z ≡ cut f m (z + 1)
  unfolding cut
  cut_more = rw (mul-mod_left m 10, mul-div_cancel m (lit< tt), cut)

-- cutting the zeros off gives m and their number, whatever the fuel, if it is enough
cut_is : (f m z t : ℕ) → (m % 10 ≡ 0 → ⊥) → t < f → cut f (m * 10 ^ t) z ≡ cut_as m (z + t)
cut_is zero m z t n h = absurd (omega arith)
cut_is (suc f) m z zero n h = rw (pow-zero, mul-one, add-zero) (cut_stop f m z n)
cut_is (suc f) m z (suc t) n h = rw times_ten (cut_more f (m * 10 ^ t) z ∙ cut_is f m (z + 1) t n (omega arith) ∙ ap (cut_as m) (omega arith))

-- d without its zeros
pub cut_all : (d m t : ℕ) → d ≡ m * 10 ^ t → (m % 10 ≡ 0 → ⊥) → cut d d 0 ≡ cut_as m t
cut_all d m t e n = rw e (cut_is (m * 10 ^ t) m 0 t n (omega (arith, below_tens t, mul-le-mul_right (10 ^ t) (pos_of m n))) ∙ ap (cut_as m) (omega arith))

-- ---- a cut on the way: v and its zeros are still d
pub record Cutting (d v zeros : ℕ) : Type 0 where
  pub whole : d ≡ v * 10 ^ zeros
  pub some : 0 < v
  pub less : v < 10 ^ 18

ten_in : (q z : ℕ) → q * 10 ^ (z + 1) ≡ q * 10 * 10 ^ z
ten_in q z = rw add-one (omega (arith, times_ten q z))

pub cutting : (d v zeros : ℕ) → Cutting d v zeros → v % 10 ≡ 0 → Cutting d (v / 10) (zeros + 1)
cutting d v zeros c e =
    let q : v / 10 * 10 ≡ v = omega arith in
    record { whole = c.whole ∙ sym (ten_in (v / 10) zeros ∙ ap (λ m. m * 10 ^ zeros) q); some = omega (arith, c.some); less = omega (arith, c.less) }

pub few : (v zeros m tail : ℕ) → m < 10 ^ 18 → Cutting (m * 10 ^ tail) v zeros → zeros < 18 + tail
few v zeros m tail h c =
    split (ltb zeros (18 + tail)) (λ t. ltb-true _ _ t)
    (λ f. absurd (
    omega (
      arith,
      pow-le-pow_right {n = 10} (lit< tt) {i = 18 + tail} {j = zeros} (ltb-false _ _ f),
      pow-add 10 18 tail,
      mul-le-mul_right (10 ^ tail) h,
      ten_pos tail,
      mul-le-mul_right (10 ^ zeros) c.some,
      c.whole,
    )
    ))
