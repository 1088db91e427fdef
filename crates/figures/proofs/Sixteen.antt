-- How many hexadecimal figures a number has, by its highest bit. Assumes nothing.
use Prim.Native.Nat.{ℕ, zero, suc, ◌+◌, ◌*◌, ◌/◌, ◌^◌, ◌≤◌, ◌<◌}
use native.Mathlib.Nat.{pow-suc, pow-le-pow_right}
use native.Mathlib.Omega.{arith}
use mathlib.Core.Path.{◌≡◌, refl, sym, ap, ◌∙◌}
use borrow.Author.Tests.{ltb-true, ltb-false}
use lib.Dec.{ltb}
use lib.ListN.{length}
use lib.Pow.{pow-add}
use Rattle.facts.proofs.Branch.{split}
use Rattle.figures.specs.Figures.{figures}
use Rattle.figures.proofs.Shorter.{count_one, count_power}

-- four bits are a figure
power_bits : (k : ℕ) → 16 ^ k ≡ 2 ^ (4 * k)
power_bits zero = refl
power_bits (suc k) =
    let z : 4 * suc k ≡ 4 * k + 4 = omega arith in
    pow-suc 16 k ∙ ap (λ (p : ℕ). p * 16) (power_bits k) ∙ sym (pow-add 2 (4 * k) 4) ∙ ap (λ (i : ℕ). 2 ^ i) (sym z)

-- a power of 2 that is not above n's even part and one is not above n, but for 0
not_above : (n j : ℕ) → 0 < n → 2 ^ j ≤ n / 2 * 2 + 1 → 2 ^ j ≤ n
not_above n zero p l = p
not_above n (suc i) p l = omega (arith, pow-suc 2 i)

-- j is the place of the highest bit of n, or 0 if it has none
pub count_bits : (n j : ℕ) → 2 ^ j ≤ n / 2 * 2 + 1 → n / 2 * 2 + 1 < 2 ^ suc j → length (figures 16 n) ≡ suc (j / 4)
count_bits n j l h = split (ltb n 16) (λ b. few (ltb-true n 16 b)) (λ b. many (ltb-false n 16 b))
  where
    few : n < 16 → length (figures 16 n) ≡ suc (j / 4)
    few b =
        let z : j < 4 = split (ltb j 4) (λ c. ltb-true j 4 c) (λ c. let y : 2 ^ 4 ≤ 2 ^ j = pow-le-pow_right {n = 2} (omega arith) (ltb-false j 4 c) in absurd (omega arith)) in
        omega (arith, count_one 16 (omega arith) n b)

    many : 16 ≤ n → length (figures 16 n) ≡ suc (j / 4)
    many b =
        let k = j / 4 in
        let lower : 2 ^ (4 * k) ≤ 2 ^ j = pow-le-pow_right {n = 2} (omega arith) (omega arith) in
        let upper : 2 ^ suc j ≤ 2 ^ (4 * suc k) = pow-le-pow_right {n = 2} (omega arith) (omega arith) in
        count_power 16 (omega arith) k n (omega (arith, power_bits k, not_above n j (omega arith) l)) (omega (arith, power_bits (suc k)))
