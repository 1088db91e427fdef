-- The pair that is kept has the value, is canonical, and is the only canonical pair that has it. Assumes nothing.
use Rattle.std.specs.Prelude.{Option, None, Some}
use Rattle.decimals.specs.Coordinate.{decimal}
use Prim.Native.Nat.{ℕ, zero, suc, ◌+◌, ◌*◌, ◌%◌, ◌^◌, ◌≤◌, ◌<◌}
use native.Mathlib.Nat.{zero-mul}
use native.Mathlib.Omega.{arith}
use mathlib.Core.Path.{◌≡◌, refl, sym, ap, ◌∙◌}
use mathlib.Core.Logic.{◌↔◌}
use mathlib.Core.Bool.{Bool, true, false}
use borrow.Author.Tests.{lt-ltb, ltb-false, ltb-true, eqb-true, eqb-false, eq-eqb, ne_eqb}
use lib.Dec.{lit<, ltb, eqb}
use lib.IntN.{ℤ, pos, negsuc, nat_abs, ◌+ℤ◌, ◌-ℤ◌, ◌*ℤ◌, +ℤ-neg_ℤ_cancel}
use lib.Signed.{le_z}
use Rattle.facts.proofs.Branch.{split, either}
use Rattle.decimals.specs.declared.decimal.Cut.{Cut}
use Rattle.decimals.specs.declared.decimal.Decimal.{Decimal}
use Rattle.decimals.specs.Coordinate.{sign_of, in_range, fitted, keep}
use Rattle.decimals.specs.Value.{SameValue, Canonical}
use Rattle.digits.proofs.Digits.{and_left, and_right}
use Rattle.decimals.proofs.Tens.{cut_as, pos_of, at_least, cut_all}
use Rattle.decimals.proofs.Scaled.{abs_sign, abs_times, sign_times, sign_is, tens_unique, swapped, regroup, cut_same, zero_same, same_refl, Tens, tens_of_lem}

-- ---- what is kept
abbrev pub Holds : (ℤ → ℤ → Type 0) → Option Decimal → Type 0
Holds P (Some d) = P d.mantissa d.exponent
Holds P None = Unit

abbrev Right : Bool → ℕ → ℤ → ℤ → ℤ → Type 0
Right n d x m e = SameValue m e (sign_of n d) x × Canonical m e

in_range_lem : (e : ℤ) → le_z (negsuc 399) e ≡ true → le_z e (pos 400) ≡ true → in_range e ≡ true
unfolding in_range
in_range_lem e p q = rw (p, q)

range_low : (e : ℤ) → in_range e ≡ true → le_z (negsuc 399) e ≡ true
unfolding in_range
range_low e h = and_left (le_z (negsuc 399) e) (le_z e (pos 400)) h

range_high : (e : ℤ) → in_range e ≡ true → le_z e (pos 400) ≡ true
unfolding in_range
range_high e h = and_right (le_z (negsuc 399) e) (le_z e (pos 400)) h

module _ (n : Bool) (d : ℕ) (x : ℤ) where
  fitted_right : (m z : ℕ) → d ≡ m * 10 ^ z → (m % 10 ≡ 0 → ⊥) → Holds (Right n d x) (fitted n (cut_as m z) x)
  unfolding fitted
  fitted_right m z e h =
      either (Holds (Right n d x)) (ltb m (10 ^ 18))
      (λ p. either (Holds (Right n d x)) (in_range (x +ℤ pos z))
      (λ q. (
        cut_same n d m z x e,
        record {
          zero_is = λ y. absurd (omega (arith, pos_of m h, sym (abs_sign n m) ∙ ap nat_abs y));
          ends = λ _. rw (abs_sign n m) h;
          few = rw (abs_sign n m) (ltb-true m (10 ^ 18) p);
          low = range_low _ q;
          high = range_high _ q;
        },
      ))
      (λ _. tt))
      (λ _. tt)

  keep_right : Holds (Right n d x) (keep n d x)
  unfolding keep
  keep_right =
      either (Holds (Right n d x)) (eqb d 0)
      (λ p. (zero_same n d x (eqb-true d 0 p), record { zero_is = λ _. refl; ends = λ y. absurd (y refl); few = lit< tt; low = refl; high = refl }))
      (λ p. let t = tens_of_lem d d (omega arith) (omega (arith, eqb-false d 0 p)) in
      rw (cut_all d t.core t.zeros t.whole t.ends) (fitted_right t.core t.zeros t.whole t.ends))

holds_is : (P : ℤ → ℤ → Type 0) (r : Option Decimal) (m e : ℤ) → Holds P r → r ≡ decimal m e → P m e
holds_is P r m e h q = rw q at h

-- ---- and nothing else is kept
pub keep_zero : (n : Bool) (d : ℕ) (x : ℤ) → d ≡ 0 → decimal (pos 0) (pos 0) ≡ keep n d x
unfolding keep
keep_zero n d x h = rw (eq-eqb d 0 h, keep)

pub keep_tens : (n : Bool) (d m z : ℕ) (x : ℤ) → d ≡ m * 10 ^ z → (m % 10 ≡ 0 → ⊥) → keep n d x ≡ fitted n (cut_as m z) x
unfolding keep
keep_tens n d m z x e h =
    let g : 1 ≤ d = omega (arith, e, at_least m z, pos_of m h) in
    rw (ne_eqb d 0 (λ e. omega arith), keep) (ap (λ c. fitted n c x) (cut_all d m z e h))

module _ (n : Bool) (c : Cut) (e : ℤ) (h : c.m < 10 ^ 18) where
  pub fitted_in : in_range (e +ℤ pos c.zeros) ≡ true → decimal (sign_of n c.m) (e +ℤ pos c.zeros) ≡ fitted n c e
  unfolding fitted
  fitted_in t = rw (lt-ltb _ (10 ^ 18) h, t, fitted)

  pub fitted_out : in_range (e +ℤ pos c.zeros) ≡ false → None ≡ fitted n c e
  unfolding fitted
  fitted_out t = rw (lt-ltb _ (10 ^ 18) h, t, fitted)

module _ (n : Bool) (d : ℕ) (x m e : ℤ) (s : SameValue m e (sign_of n d) x) (c : Canonical m e) where
  scaled : m *ℤ pos (10 ^ s.left) ≡ sign_of n (d * 10 ^ s.right)
  scaled = s.same ∙ sign_times n d _

  sizes : nat_abs m * 10 ^ s.left ≡ d * 10 ^ s.right
  sizes = sym (abs_times m _) ∙ ap nat_abs scaled ∙ abs_sign n _

  zero_kept : d ≡ 0 → decimal m e ≡ keep n d x
  zero_kept h =
      let a = nat_abs_zero m (omega (arith, at_least (nat_abs m) s.left, sizes ∙ ap (λ k. k * 10 ^ s.right) h ∙ zero-mul (10 ^ s.right))) in
      rw (a, c.zero_is a) (keep_zero n d x h)
    where
      nat_abs_zero : (m : ℤ) → nat_abs m ≡ 0 → m ≡ pos 0
      nat_abs_zero (pos k) h = ap pos h
      nat_abs_zero (negsuc k) h = absurd (omega arith)

  module _ (g : 1 ≤ d) (t : Tens d) where
    grown : nat_abs m * 10 ^ s.left ≡ t.core * 10 ^ (s.right + t.zeros)
    grown = sizes ∙ ap (λ k. k * 10 ^ s.right) t.whole ∙ sym (regroup t.core t.zeros s.right)

    large : 1 ≤ d * 10 ^ s.right
    large = omega (arith, at_least d s.right)

    some_m : 1 ≤ nat_abs m
    some_m = split (ltb (nat_abs m) 1) (λ p. absurd (zero_m (nat_abs m) (ltb-true _ _ p) sizes)) (λ p. ltb-false _ _ p)
      where
        zero_m : (k : ℕ) → k < 1 → k * 10 ^ s.left ≡ d * 10 ^ s.right → ⊥
        zero_m zero h q = omega (arith, q, large)
        zero_m (suc k) h q = omega arith

    parted : (nat_abs m ≡ t.core) × (s.left ≡ s.right + t.zeros)
    parted = tens_unique (nat_abs m) t.core s.left (s.right + t.zeros) (c.ends (λ z. omega (arith, some_m, ap nat_abs z))) t.ends grown

    mantissa_is : m ≡ sign_of n t.core
    mantissa_is = sign_is m n _ _ scaled large ∙ ap (sign_of n) parted.0

    exponent_is : e ≡ x +ℤ pos t.zeros
    exponent_is =
        sym (+ℤ-neg_ℤ_cancel e (pos s.shift))
        ∙ ap (λ y. y -ℤ pos s.shift) (
        s.left_is ∙ ap pos parted.1 ∙ ap (λ y. y +ℤ pos t.zeros) (sym s.right_is) ∙ swapped x s.shift t.zeros
        )
        ∙ +ℤ-neg_ℤ_cancel (x +ℤ pos t.zeros) (pos s.shift)

    some_kept : decimal m e ≡ keep n d x
    some_kept =
        rw (mantissa_is, exponent_is)
        (fitted_in n (cut_as t.core t.zeros) x (rw parted.0 at c.few) (rw exponent_is at (in_range_lem e c.low c.high))
        ∙ sym (keep_tens n d t.core t.zeros x t.whole t.ends))

  kept_is : decimal m e ≡ keep n d x
  kept_is = split (eqb d 0) (λ p. zero_kept (eqb-true d 0 p)) (λ p. some_kept (positive p) (tens_of_lem d d (omega arith) (positive p)))
    where
      positive : eqb d 0 ≡ false → 1 ≤ d
      positive p = omega (arith, eqb-false d 0 p)

-- a pair is kept exactly when it is canonical and has the value
pub keep_exactly : (n : Bool) (d : ℕ) (x m e : ℤ) → (keep n d x ≡ decimal m e) ↔ (SameValue m e (sign_of n d) x × Canonical m e)
keep_exactly n d x m e = (holds_is (Right n d x) (keep n d x) m e (keep_right n d x), λ h. sym (kept_is n d x m e h.0 h.1))

same_decimal : {d d' : Decimal} → Some d ≡ Some d' → d ≡ d'
same_decimal p = cc

pub same_pair : {r : Option Decimal} {m e m' e' : ℤ} → r ≡ decimal m e → r ≡ decimal m' e' → (m ≡ m') × (e ≡ e')
same_pair p q = let d = same_decimal (sym p ∙ q) in (ap (λ (y : Decimal). y.mantissa) d, ap (λ (y : Decimal). y.exponent) d)

-- no other canonical pair has the value of a canonical pair
pub canonical_only : (m e m' e' : ℤ) → Canonical m e → Canonical m' e' → SameValue m e m' e' → (m ≡ m') × (e ≡ e')
canonical_only m e (pos a) e' c d s =
    same_pair ((keep_exactly false a e' m e).1 (s, c)) ((keep_exactly false a e' (pos a) e').1 (same_refl (pos a) e', d))
canonical_only m e (negsuc a) e' c d s =
    same_pair ((keep_exactly true (suc a) e' m e).1 (s, c)) ((keep_exactly true (suc a) e' (negsuc a) e').1 (same_refl (negsuc a) e', d))
