-- A number's decimal figures counted by comparing, its hexadecimal ones by its highest bit. Assumes nothing.
use Prim.Native.Nat.{ℕ, suc, ◌+◌, ◌-◌, ◌*◌, ◌/◌, ◌%◌, ◌^◌, ◌≤◌, ◌<◌, max}
use native.Mathlib.Omega.{arith}
use native.Mathlib.Nat.{pow-le-pow_left, mod-lt, max-eq_right}
use mathlib.Core.Path.{◌≡◌, sym, ◌∙◌, ap}
use lib.Bits.{bit_or, or_step, or_zero_r, or_lt}
use lib.Count.{count_leading_zeros, leading_top}
use lib.Dec.{lit<}
use lib.ListN.{length}
use lib.Pow.{pow-add}
use Rattle.figures.specs.Figures.{figures}
use Rattle.figures.proofs.Figures.{figures_few}
use Rattle.figures.proofs.Shorter.{count_one, count_power}
use Rattle.figures.proofs.Sixteen.{count_bits}

-- a word of the machine has at most 20 figures
pub count_small : (base : ℕ) → 10 ≤ base → base ≤ 16 → (n : ℕ) → n < 2 ^ 64 → length (figures base n) ≤ 20
count_small base lo hi n h = figures_few base (omega arith) hi n 19 (omega (arith, pow-le-pow_left {n = 10} {m = base} lo 20))

-- ---- decimal
pub count_first : (n : ℕ) → n < 10 → 1 ≡ length (figures 10 n)
count_first n h = sym (count_one 10 (omega arith) n h)

-- `before` figures, and j + 1 more
pub count_after : (n low before j : ℕ) → low ≡ 10 ^ before → low * 10 ^ j ≤ n → n < low * 10 ^ suc j → before + suc j ≡ length (figures 10 n)
count_after n low before j e l h =
    let z : before + suc j ≡ suc (before + j) = omega arith in
    let a : 10 ^ (before + j) ≡ low * 10 ^ j = pow-add 10 before j ∙ ap (λ (p : ℕ). p * 10 ^ j) (sym e) in
    let b : 10 ^ suc (before + j) ≡ low * 10 ^ suc j = ap (λ (i : ℕ). 10 ^ i) (sym z) ∙ pow-add 10 before (suc j) ∙ ap (λ (p : ℕ). p * 10 ^ suc j) (sym e) in
    z ∙ sym (count_power 10 (omega arith) (before + j) n (omega (arith, a)) (omega (arith, b)))

-- ---- hexadecimal
some_is : (n : ℕ) → bit_or n 1 ≡ n / 2 * 2 + 1
some_is n =
    let m : max (n % 2) 1 ≡ 1 = max-eq_right (omega (arith, mod-lt n {m = 2} (omega arith))) in
    or_step n 1 ∙ ap (λ x. x * 2 + max (n % 2) 1) (or_zero_r (n / 2)) ∙ ap (λ (x : ℕ). n / 2 * 2 + x) m

module _ (n : ℕ) (h : n < 2 ^ 64) where
  top : (j : ℕ) × (count_leading_zeros 64 (bit_or n 1) + suc j ≡ 64) × (2 ^ j ≤ bit_or n 1) × (bit_or n 1 < 2 ^ suc j)
  top = leading_top 64 (bit_or n 1) (omega (arith, some_is n)) (or_lt 64 n 1 h (lit< tt))

  pub counted_bits : (67 - count_leading_zeros 64 (bit_or n 1)) / 4 ≡ length (figures 16 n)
  counted_bits =
      let j = top.0 in
      let z : 67 - count_leading_zeros 64 (bit_or n 1) ≡ j + 4 = omega (arith, top.1) in
      let c = count_bits n j (omega (arith, top.2, some_is n)) (omega (arith, top.3, some_is n)) in
      omega (arith, ap (λ (i : ℕ). i / 4) z)
