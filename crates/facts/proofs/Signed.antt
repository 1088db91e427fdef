-- Signed numbers over the width: what fits, and what the machine reads back. Assumes nothing.
use Prim.Native.Nat.{ℕ, zero, suc, ◌+◌, ◌^◌, ◌≤◌, ◌<◌}
use native.Mathlib.Omega.{arith}
use mathlib.Core.Path.{◌≡◌, refl}
use mathlib.Core.Bool.{Bool, true, false, cond}
use lib.Dec.{ltb}
use lib.IntN.{ℤ, pos, negsuc, neg_ℤ, sub_ℕ, ◌+ℤ◌, ◌-ℤ◌, +ℤ_idl}
use lib.Signed.{mag}
use mir.Syntax.{Width}
use mir.Val.{SFits, hbits, of_z, to_z}
use mir.ValLaws.{to_z_pos, to_z-of_z}

mag_cond : (t : Bool) (a b n : ℕ) → (t ≡ true → a ≤ n) → (t ≡ false → b ≤ n) → mag (cond t (negsuc a) (pos b)) ≤ n
mag_cond true a b n p q = p refl
mag_cond false a b n p q = q refl

mag_sub : (a b : ℕ) → mag (sub_ℕ a b) ≤ a + b
mag_sub a b = mag_cond (ltb a b) _ _ _ (λ _. omega arith) (λ _. omega arith)

-- a sum is hardly larger than its parts
pub mag_sum : (a b : ℤ) → mag (a +ℤ b) ≤ suc (mag a + mag b)
mag_sum (pos a) (pos b) = omega arith
mag_sum (pos a) (negsuc b) = omega (arith, mag_sub a (suc b))
mag_sum (negsuc a) (pos b) = omega (arith, mag_sub b (suc a))
mag_sum (negsuc a) (negsuc b) = omega arith

-- the negation of a natural number is no larger
pub mag_neg : (m : ℕ) → mag (neg_ℤ (pos m)) ≤ m
mag_neg zero = omega arith
mag_neg (suc m) = omega arith

module _ (w : Width) where
  minus_fits : (m : ℕ) → m < 2 ^ hbits w → SFits w (neg_ℤ (pos m))
  minus_fits m h = record { sfits = omega (arith, mag_neg m) }

  -- the negation of a cast: what it asks, and what it is
  pub neg_fits : (m : ℕ) → m < 2 ^ hbits w → SFits w (pos 0 -ℤ to_z w m)
  neg_fits m h = rw (to_z_pos w m h, +ℤ_idl) (minus_fits m h)

  pub neg_is : (m : ℕ) → m < 2 ^ hbits w → to_z w (of_z w (pos 0 -ℤ to_z w m)) ≡ neg_ℤ (pos m)
  neg_is m h = rw (to_z_pos w m h, +ℤ_idl) (to_z-of_z w _ (minus_fits m h))

  pub sum_fits : (a b : ℤ) → suc (mag a + mag b) < 2 ^ hbits w → SFits w (a +ℤ b)
  sum_fits a b h = record { sfits = omega (arith, mag_sum a b) }
