-- The test of a pair decides that it is canonical. Assumes nothing.
use Prim.Native.Nat.{◌%◌, ◌^◌}
use native.Mathlib.Omega.{arith}
use mathlib.Core.Path.{◌≡◌, refl, ap}
use mathlib.Core.Bool.{Bool, true, ◌&&◌, not}
use borrow.Author.Tests.{eqb-true, eqb-false, eq-eqb}
use lib.Dec.{eqb, ltb}
use lib.IntN.{ℤ, pos, negsuc, nat_abs}
use lib.Signed.{le_z}
use Rattle.facts.proofs.Branch.{either}
use Rattle.facts.proofs.Decides.{Decides, by, ne_is, lt_is, and_is}
use Rattle.sizes.specs.Sizes.{coordinate_digits}
use Rattle.decimals.specs.Value.{Canonical}
use Rattle.texts.specs.Judged.{canonical_by}

pub abs_zero : (m : ℤ) → nat_abs m ≡ 0 → m ≡ pos 0
abs_zero (pos n) e = ap pos e
abs_zero (negsuc n) e = absurd (omega arith)

true_is : (b : Bool) → Decides b (b ≡ true)
true_is b = (λ p. p, λ p. p)

-- a number other than 0
some_is : (m e : ℤ) → (nat_abs m ≡ 0 → ⊥)
    → Decides (not (eqb (nat_abs m % 10) 0) && (ltb (nat_abs m) (10 ^ coordinate_digits) && (le_z (negsuc 399) e && le_z e (pos 400)))) (Canonical m e)
some_is m e n =
    by (
      λ p. record { zero_is = λ z. absurd (n (ap nat_abs z)); ends = λ _. p.0; few = p.1.0; low = p.1.1.0; high = p.1.1.1 },
      λ c. (c.ends (λ z. n (ap nat_abs z)), (c.few, (c.low, c.high))),
    )
    (and_is (ne_is (nat_abs m % 10) 0) (and_is (lt_is (nat_abs m) (10 ^ coordinate_digits)) (and_is (true_is (le_z (negsuc 399) e)) (true_is (le_z e (pos 400))))))

-- 0
none_is : (e : ℤ) → Decides (eqb (nat_abs e) 0) (Canonical (pos 0) e)
none_is e = (
  λ p. nought e (abs_zero e (eqb-true (nat_abs e) 0 p)),
  λ c. eq-eqb (nat_abs e) 0 (ap nat_abs (c.zero_is refl)),
)
  where
    nought : (e : ℤ) → e ≡ pos 0 → Canonical (pos 0) e
    nought e z = rw z (record { zero_is = λ _. refl; ends = λ n. absurd (n refl); few = omega arith; low = refl; high = refl })

pub canonical_is : (m e : ℤ) → Decides (canonical_by m e) (Canonical m e)
unfolding canonical_by
canonical_is m e =
    either (λ b. Decides b (Canonical m e)) (eqb (nat_abs m) 0) (λ p. rw (abs_zero m (eqb-true (nat_abs m) 0 p)) (none_is e)) (λ p. some_is m e (eqb-false (nat_abs m) 0 p))
