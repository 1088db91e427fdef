-- Lists and sums over a range: one more, none, what they hold, how large they are. Assumes nothing.
use Prim.Native.Nat.{ℕ, zero, suc, ◌+◌, ◌-◌, ◌*◌, ◌≤◌, ◌<◌}
use native.Mathlib.Omega.{arith}
use mathlib.Core.Path.{◌≡◌, refl, ap, ◌∙◌}
use mathlib.Core.List.Memᴰ
use mathlib.Core.List.{List, [], ◌++◌, Memᴰ}
use mathlib.Core.Logic.{◌⊎◌, inl, inr}
use borrow.Author.Tests.{eqb-true, eqb-false}
use lib.Dec.{eqb}
use lib.ListN.{length, get_or, length-append}
use Rattle.facts.proofs.Branch.{split}
use Rattle.faults.specs.Over.{each, listed, sum_over}

module _ {A : Type 0} (g : ℕ → List A) where
  -- a range of which a of b numbers are done
  pub each_more : (i a b : ℕ) → a < b → each g i (b - a) ≡ g i ++ each g (i + 1) (b - (a + 1))
  unfolding each
  each_more i a b h = let e : b - a ≡ suc (b - (a + 1)) = omega arith in rw e

  pub each_none : (i a b : ℕ) → b ≤ a → each g i (b - a) ≡ []
  unfolding each
  each_none i a b h = let e : b - a ≡ 0 = omega arith in rw e

  -- something of the list stands at one number of the range
  pub record At (x : A) (i n : ℕ) : Type 0 where
    pub at : ℕ
    pub low : i ≤ at
    pub high : at < i + n
    pub there : Memᴰ x (g at)

  pub each_in : {x : A} (i n : ℕ) → Memᴰ x (each g i n) → At x i n
  unfolding each
  each_in i zero m = absurd (Memᴰ.not-nil m)
  each_in {x} i (suc n) m =
      later (each_in {x = x} (i + 1) n) (Memᴰ.append_cases (g i) m)
    where
      later : (Memᴰ x (each g (i + 1) n) → At x (i + 1) n) → Memᴰ x (g i) ⊎ Memᴰ x (each g (i + 1) n) → At x i (suc n)
      later r (inl a) = record { at = i; low = omega arith; high = omega arith; there = a }
      later r (inr b) = let q = r b in record { at = q.at; low = omega (arith, q.low); high = omega (arith, q.high); there = q.there }

  pub in_each : {x : A} (i n j : ℕ) → i ≤ j → j < i + n → Memᴰ x (g j) → Memᴰ x (each g i n)
  unfolding each
  in_each i zero j l h m = absurd (omega arith)
  in_each i (suc n) j l h m =
      split (eqb i j)
      (λ t. Memᴰ.append_left {s = g i} (each g (i + 1) n) (rw (eqb-true i j t) m))
      (λ t. let d = eqb-false i j t in Memᴰ.append_right (g i) (in_each (i + 1) n j (ne_le d l) (omega arith) m))
    where
      ne_le : {a b : ℕ} → (a ≡ b → ⊥) → a ≤ b → a + 1 ≤ b
      ne_le d l = omega arith

  pub each_length : (most i n : ℕ) → ((j : ℕ) → length (g j) ≤ most) → length (each g i n) ≤ n * most
  unfolding each
  each_length most i zero h = omega arith
  each_length most i (suc n) h = omega (arith, length-append (g i) (each g (i + 1) n), h i, each_length most (i + 1) n h)

-- two that agree on the range
pub each_same : {A : Type 0} (g h : ℕ → List A) (i n : ℕ) → ((j : ℕ) → i ≤ j → j < i + n → g j ≡ h j) → each g i n ≡ each h i n
unfolding each
each_same g h i zero e = refl
each_same g h i (suc n) e = ap (λ l. l ++ each g (i + 1) n) (e i (omega arith) (omega arith)) ∙ ap (λ l. h i ++ l) (each_same g h (i + 1) n (λ j l u. e j (omega arith) (omega arith)))

module _ (g : ℕ → ℕ) where
  pub sum_over_more : (i a b : ℕ) → a < b → sum_over g i (b - a) ≡ g i + sum_over g (i + 1) (b - (a + 1))
  unfolding sum_over
  sum_over_more i a b h = let e : b - a ≡ suc (b - (a + 1)) = omega arith in rw e

  pub sum_over_none : (i a b : ℕ) → b ≤ a → sum_over g i (b - a) ≡ 0
  unfolding sum_over
  sum_over_none i a b h = let e : b - a ≡ 0 = omega arith in rw e

  -- the last number by itself
  pub sum_over_last : (i n : ℕ) → sum_over g i (suc n) ≡ sum_over g i n + g (i + n)
  unfolding sum_over
  sum_over_last i zero = let e : i + 0 ≡ i = omega arith in rw e (omega arith)
  sum_over_last i (suc n) = let e : i + 1 + n ≡ i + suc n = omega arith in omega (arith, sum_over_last (i + 1) n, ap g e)

  pub sum_over_most : (most i n : ℕ) → ((j : ℕ) → g j ≤ most) → sum_over g i n ≤ n * most
  unfolding sum_over
  sum_over_most most i zero h = omega arith
  sum_over_most most i (suc n) h = omega (arith, h i, sum_over_most most (i + 1) n h)

  pub listed_length : (i n : ℕ) → length (listed g i n) ≡ n
  unfolding listed
  listed_length i zero = refl
  listed_length i (suc n) = ap suc (listed_length (i + 1) n)

  pub listed_at : (i n j : ℕ) → j < n → get_or (listed g i n) j 0 ≡ g (i + j)
  unfolding listed
  listed_at i zero j h = absurd (omega arith)
  listed_at i (suc n) zero h = let e : i + 0 ≡ i = omega arith in rw e
  listed_at i (suc n) (suc j) h = let e : i + 1 + j ≡ i + suc j = omega arith in rw e at (listed_at (i + 1) n j (omega arith))
