-- Pairs m · 10 ^ e: which have one value, and that a number parts in one way into digits and zeros at their end. Assumes nothing.
use Prim.Native.Nat.{ℕ, zero, suc, ◌+◌, ◌*◌, ◌/◌, ◌%◌, ◌^◌, ◌≤◌}
use native.Mathlib.Nat.{mul-one, pow-zero, zero-mul}
use native.Mathlib.Omega.{arith}
use lib.Pow.{pow-add}
use mathlib.Core.Path.{◌≡◌, refl, sym, ap, ◌∙◌}
use mathlib.Core.Bool.{Bool, true, false}
use borrow.Author.Tests.{le-ltb, eqb-true, eqb-false}
use lib.Dec.{eqb}
use lib.IntN.{pos-ne-negsuc, ℤ, pos, negsuc, neg_ℤ, nat_abs, ◌+ℤ◌, ◌*ℤ◌, +ℤ_assoc, +ℤ_comm}
use Rattle.facts.proofs.Branch.{split}
use Rattle.decimals.specs.Coordinate.{sign_of}
use Rattle.decimals.specs.Value.{SameValue}
use Rattle.decimals.proofs.Tens.{times_ten, cut_all}

-- ---- a number parts in one way only
pub tens_unique : (m n a b : ℕ) → (m % 10 ≡ 0 → ⊥) → (n % 10 ≡ 0 → ⊥) → m * 10 ^ a ≡ n * 10 ^ b → (m ≡ n) × (a ≡ b)
tens_unique m n a b p q e =
    let c = sym (cut_all (m * 10 ^ a) m a refl p) ∙ cut_all (m * 10 ^ a) n b e q in
    (ap (λ x. x.m) c, ap (λ x. x.zeros) c)

-- ---- signs and products
pub abs_sign : (n : Bool) (k : ℕ) → nat_abs (sign_of n k) ≡ k
abs_sign true zero = refl
abs_sign true (suc k) = refl
abs_sign false k = refl

pub abs_times : (m : ℤ) (p : ℕ) → nat_abs (m *ℤ pos p) ≡ nat_abs m * p
abs_times (pos m) p = refl
abs_times (negsuc m) p = abs_sign true (suc m * p)

pub sign_times : (n : Bool) (a p : ℕ) → sign_of n a *ℤ pos p ≡ sign_of n (a * p)
sign_times true zero p = rw zero-mul
sign_times true (suc a) p = refl
sign_times false a p = refl

not_neg : (x k : ℕ) → pos x ≡ neg_ℤ (pos k) → k ≡ 0
not_neg x zero e = refl
not_neg x (suc k) e = absurd (pos-ne-negsuc x k e)

-- a number has the sign of its products
pub sign_is : (m : ℤ) (n : Bool) (p q : ℕ) → m *ℤ pos p ≡ sign_of n q → 1 ≤ q → m ≡ sign_of n (nat_abs m)
sign_is (pos a) false p q e h = refl
sign_is (pos a) true p q e h = absurd (omega (arith, not_neg (a * p) q e))
sign_is (negsuc a) true p q e h = refl
sign_is (negsuc a) false p q e h =
    absurd (omega (arith, ap nat_abs (sym e ∙ ap (λ k. neg_ℤ (pos k)) (not_neg q (suc a * p) (sym e)))))

-- ---- the value
abbrev up : ℤ → ℕ
up (pos n) = n
up (negsuc n) = 0

abbrev down : ℤ → ℕ
down (pos n) = 0
down (negsuc n) = suc n

lifted : (x : ℤ) → x +ℤ pos (down x) ≡ pos (up x)
lifted (pos n) = ap pos (omega arith)
lifted (negsuc n) = rw (le-ltb (suc n) (suc n) (omega arith)) (ap pos (omega arith))

pub swapped : (x : ℤ) (a b : ℕ) → x +ℤ pos a +ℤ pos b ≡ x +ℤ pos b +ℤ pos a
swapped x a b =
    +ℤ_assoc x (pos a) (pos b) ∙ ap (λ y. x +ℤ y) (+ℤ_comm (pos a) (pos b)) ∙ sym (+ℤ_assoc x (pos b) (pos a))

lifted_more : (x : ℤ) (z : ℕ) → x +ℤ pos z +ℤ pos (down x) ≡ pos (up x + z)
lifted_more x z = swapped x z (down x) ∙ ap (λ y. y +ℤ pos z) (lifted x)

pub regroup : (m z u : ℕ) → m * 10 ^ (u + z) ≡ m * 10 ^ z * 10 ^ u
regroup m z u = rw (pow-add 10 u z) (omega arith)

pub cut_same : (n : Bool) (d m z : ℕ) (x : ℤ) → d ≡ m * 10 ^ z → SameValue (sign_of n m) (x +ℤ pos z) (sign_of n d) x
cut_same n d m z x e =
    record {
      shift = down x;
      left = up x + z;
      right = up x;
      left_is = lifted_more x z;
      right_is = lifted x;
      same = sign_times n m _ ∙ ap (sign_of n) (regroup m z (up x) ∙ ap (λ k. k * 10 ^ up x) (sym e)) ∙ sym (sign_times n d _);
    }

pub zero_same : (n : Bool) (d : ℕ) (x : ℤ) → d ≡ 0 → SameValue (pos 0) (pos 0) (sign_of n d) x
zero_same n d x e =
    record {
      shift = down x;
      left = 0 + down x;
      right = up x;
      left_is = refl;
      right_is = lifted x;
      same = ap pos (zero-mul _) ∙ sym (sign_times n d _ ∙ rw (e, zero-mul) (sign_zero n));
    }
  where
    sign_zero : (n : Bool) → sign_of n 0 ≡ pos 0
    sign_zero true = refl
    sign_zero false = refl

pub same_refl : (m e : ℤ) → SameValue m e m e
same_refl m e = record { shift = down e; left = up e; right = up e; left_is = lifted e; right_is = lifted e; same = refl }

-- ---- every number but 0 is m · 10 ^ z with an m that ten does not divide
pub record Tens (d : ℕ) : Type 0 where
  pub core : ℕ
  pub zeros : ℕ
  pub whole : d ≡ core * 10 ^ zeros
  pub ends : core % 10 ≡ 0 → ⊥

pub tens_of_lem : (f d : ℕ) → d ≤ f → 1 ≤ d → Tens d
tens_of_lem zero d h g = absurd (omega arith)
tens_of_lem (suc f) d h g =
    split (eqb (d % 10) 0)
    (λ p. let e = eqb-true (d % 10) 0 p in let t = tens_of_lem f (d / 10) (omega arith) (omega arith) in
    record { core = t.core; zeros = suc t.zeros; whole = omega (arith, times_ten t.core t.zeros, t.whole); ends = t.ends })
    (λ p. record { core = d; zeros = 0; whole = rw (pow-zero, mul-one); ends = eqb-false (d % 10) 0 p })
