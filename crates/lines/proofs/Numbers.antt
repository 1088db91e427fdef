-- Big-endian numbers read from the front: what is left to read. Assumes nothing.
use Prim.Native.Nat.{ℕ, zero, suc, ◌+◌, ◌-◌, ◌*◌, ◌^◌, ◌≤◌, ◌<◌}
use native.Mathlib.Omega.{arith}
use native.Mathlib.Nat.{pow-suc, pow-zero, mul_assoc, mul_comm, add-mul}
use native.Mathlib.Numerals.{add-one}
use mathlib.Core.Path.{◌≡◌, refl, sym, ◌∙◌, ap, subst}
use mathlib.Core.List.{List, [], ◌∷◌}
use lib.ListN.{length, take, drop, get_or, drop_of_length-le}
use lib.Seq.{drop-cons}
use Rattle.facts.specs.Bytes.{from_big_endian}

abbrev empty_bytes : List ℕ
empty_bytes = []

-- v is read, `rest` is not yet
abbrev worth : ℕ → List ℕ → ℕ
worth v rest = v * 256 ^ length rest + from_big_endian rest

worth_none : (v : ℕ) → worth v [] ≡ v
unfolding from_big_endian
worth_none v = let p : 256 ^ 0 ≡ 1 = pow-zero 256 in rw p (omega arith)

worth_more : (v b : ℕ) (rest : List ℕ) → worth (v * 256 + b) rest ≡ worth v (b ∷ rest)
unfolding from_big_endian
worth_more v b rest = shifted v b (256 ^ length rest) (256 ^ suc (length rest)) (from_big_endian rest) (pow-suc 256 (length rest))
  where
    shifted : (v b p q f : ℕ) → q ≡ p * 256 → (v * 256 + b) * p + f ≡ v * q + (b * p + f)
    shifted v b p q f e =
        let x : (v * 256 + b) * p ≡ v * 256 * p + b * p = add-mul (v * 256) b p in
        let y : v * 256 * p ≡ v * q = mul_assoc v 256 p ∙ ap (λ z. v * z) (mul_comm 256 p ∙ sym e) in
        omega (arith, x, y)

pub record Summing (list : List ℕ) (at n i v : ℕ) : Type 0 where
  pub within : i ≤ n
  pub small : v < 256 ^ i
  pub same : worth v (take (n - i) (drop (at + i) list)) ≡ from_big_endian (take n (drop at list))

module _ (list : List ℕ) (at n : ℕ) where
  pub summing_start : Summing list at n 0 0
  summing_start =
      let e : n - 0 ≡ n = omega arith in
      let f : at + 0 ≡ at = omega arith in
      record { within = omega arith; small = (let p : 256 ^ 0 ≡ 1 = pow-zero 256 in omega arith); same = ap (λ m. worth 0 (take m (drop (at + 0) list))) e ∙ ap (λ m. worth 0 (take n (drop m list))) f ∙ (let z : 0 * 256 ^ length (take n (drop at list)) + from_big_endian (take n (drop at list)) ≡ from_big_endian (take n (drop at list)) = omega arith in z) }

  module _ (i v : ℕ) (g : Summing list at n i v) where
    pub summing_end : n ≤ i → v ≡ from_big_endian (take n (drop at list))
    summing_end h = let e : n - i ≡ 0 = omega arith in sym (worth_none v) ∙ sym (ap (λ m. worth v (take m (drop (at + i) list))) e) ∙ g.same

    pub summing_out : length list ≤ at + i → v ≡ from_big_endian (take n (drop at list))
    summing_out h =
        let e : drop (at + i) list ≡ [] = drop_of_length-le list {i = at + i} h in
        sym (worth_none v) ∙ sym (ap (worth v) (ap (take (n - i)) e ∙ empty (n - i))) ∙ g.same
      where
        empty : (m : ℕ) → take m (empty_bytes) ≡ empty_bytes
        empty zero = refl
        empty (suc m) = refl

    pub summing_room : i < n → n ≤ 3 → (b : ℕ) → b < 256 → v * 256 + b < 2 ^ 32
    summing_room h l b s = by i g.small (omega arith)
      where
        by : (j : ℕ) → v < 256 ^ j → j ≤ 2 → v * 256 + b < 2 ^ 32
        by zero k m = omega arith
        by (suc zero) k m = omega arith
        by (suc (suc zero)) k m = omega arith
        by (suc (suc (suc j))) k m = absurd (omega arith)

    pub summing_more : (b : ℕ) → b ≡ get_or list (at + i) 0 → b < 256 → i < n → at + i < length list → Summing list at n (i + 1) (v * 256 + b)
    summing_more b q r h l =
        let s : get_or list (at + i) 0 < 256 = subst (λ y. y < 256) q r in
        subst (λ y. Summing list at n (i + 1) (v * 256 + y)) (sym q) (
        let e : n - i ≡ suc (n - (i + 1)) = omega arith in
        let f : suc (at + i) ≡ at + (i + 1) = omega arith in
        let p : 256 ^ (i + 1) ≡ 256 ^ i * 256 = ap (λ y. 256 ^ y) (add-one i) ∙ pow-suc 256 i in
        record {
          within = omega arith;
          small = omega (arith, g.small, p);
          same = worth_more v (get_or list (at + i) 0) (take (n - (i + 1)) (drop (at + (i + 1)) list))
              ∙ ap (λ y. worth v (get_or list (at + i) 0 ∷ take (n - (i + 1)) (drop y list))) (sym f)
              ∙ ap (λ y. worth v (take (suc (n - (i + 1))) y)) (sym (drop-cons list (at + i) 0 l))
              ∙ ap (λ y. worth v (take y (drop (at + i) list))) (sym e) ∙ g.same;
        })
