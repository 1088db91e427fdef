-- Big-endian numbers over the number of bytes: their length, and that they are read back. Assumes nothing.
use Prim.Native.Nat.{ℕ, zero, suc, ◌+◌, ◌*◌, ◌/◌, ◌%◌, ◌^◌, ◌<◌}
use native.Mathlib.Nat.{mod-eq_of_lt, mod-one, pow-zero, pow-succ', one-le-pow}
use mathlib.Core.Path.{◌≡◌, refl, sym, ap, ◌∙◌}
use lib.Arith.{mod-mul}
use lib.Dec.{lit<}
use lib.ListN.{length}
use Rattle.facts.specs.Bytes.{big_endian, from_big_endian}

pub big_endian_length : (n x : ℕ) → length (big_endian n x) ≡ n
unfolding big_endian
big_endian_length zero x = refl
big_endian_length (suc n) x = ap suc (big_endian_length n x)

low_more : (n x l v : ℕ) → l ≡ n → v ≡ x % 256 ^ n → x / 256 ^ n % 256 * 256 ^ l + v ≡ x % 256 ^ suc n
low_more n x l v p q = rw (p, q, pow-succ' 256 n) (sym (mod-mul x {m = 256} {c = 256 ^ n} (lit< tt) (one-le-pow n 256 (lit< tt))))

-- of any number the lowest n bytes
pub big_endian_low : (n x : ℕ) → from_big_endian (big_endian n x) ≡ x % 256 ^ n
unfolding big_endian from_big_endian
big_endian_low zero x = sym (ap (λ (m : ℕ). x % m) (pow-zero 256) ∙ mod-one x)
big_endian_low (suc n) x = low_more n x _ _ (big_endian_length n x) (big_endian_low n x)

pub big_endian_back : (n x : ℕ) → x < 256 ^ n → from_big_endian (big_endian n x) ≡ x
big_endian_back n x h = big_endian_low n x ∙ mod-eq_of_lt h
