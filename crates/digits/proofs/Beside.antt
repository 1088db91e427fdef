-- Eight bytes read as one number, bytes set before a number one by one, and the room that sums of lanes have. Assumes nothing.
use Prim.Native.Nat.{ℕ, zero, suc, ◌+◌, ◌-◌, ◌*◌, ◌^◌, ◌≤◌, ◌<◌}
use lib.Pow.{pow_mono}
use native.Mathlib.Nat.{lt_of_lt_of_le, mul-le-mul_right}
use native.Mathlib.Omega.{arith}
use mathlib.Core.Path.{◌≡◌, refl, sym, ap, ap₂, subst, ◌∙◌}
use mathlib.Core.List.{List, [], ◌∷◌}
use lib.ListN.{length, take, drop, get_or, length-drop, drop_of_length-le}
use lib.Seq.{take_all, drop-cons, length-take-le}
use lib.Bits.{bit_and, and_le_r}
use Rattle.std.specs.Int.{w64, from_le_bytes, to_le_bytes}
use Rattle.std.proofs.lemmas.List.{get_or-drop}
use Rattle.std.proofs.lemmas.Nat.{le_bytes_8, from_le_bytes-to_le_bytes_8}
use Rattle.digits.specs.Lanes.{lanes, Laned}
use Rattle.digits.proofs.Laning.{lanes_lt}

pub paired_below : (y z mask base : ℕ) → mask * base + mask < 2 ^ 64 → bit_and y mask * base + bit_and z mask < 2 ^ 64
paired_below y z mask base h = omega (arith, mul-le-mul_right base (and_le_r y mask), and_le_r z mask)

-- a part of bytes has bytes
small_taken : (n : ℕ) (w : List ℕ) → ((i : ℕ) → get_or w i 0 < 256) → (i : ℕ) → get_or (take n w) i 0 < 256
small_taken zero w h i = omega arith
small_taken (suc n) [] h i = omega arith
small_taken (suc n) (b ∷ w) h zero = h 0
small_taken (suc n) (b ∷ w) h (suc i) = small_taken n w (λ j. h (suc j)) i

laned_eight : (bs : List ℕ) (x : ℕ) → length bs ≡ 8 → ((i : ℕ) → get_or bs i 0 < 256) → x ≡ from_le_bytes w64 bs → Laned bs x
unfolding lanes
laned_eight bs x long small is =
    let same : to_le_bytes w64 x ≡ bs = le_bytes_8 bs x long small is in
    let whole : x < 2 ^ 64 = omega (arith, is, small 0, small 1, small 2, small 3, small 4, small 5, small 6, small 7) in
    subst (λ l. Laned l x) same (record {
      same = omega (arith, from_le_bytes-to_le_bytes_8 x whole);
      bytes = (omega arith, (omega arith, (omega arith, (omega arith, (omega arith, (omega arith, (omega arith, (omega arith, tt))))))));
    })

module _ (w : List ℕ) where
  -- the first eight from `at` on, as an array
  pub laned_chunk : (at x : ℕ) (eight : List ℕ) → at + 8 ≤ length w → ((i : ℕ) → get_or w i 0 < 256) → eight ≡ take 8 (drop at w) → x ≡ from_le_bytes w64 eight → Laned (take 8 (drop at w)) x
  laned_chunk at x eight h small same is =
      laned_eight (take 8 (drop at w)) x (length-take-le 8 (drop at w) (omega (arith, length-drop at w)))
      (small_taken 8 (drop at w) (λ i. subst (λ (b : ℕ). b < 256) (sym (get_or-drop at w i 0)) (small (at + i))))
      (is ∙ ap (from_le_bytes w64) same)

  -- one byte more in front
  pub laned_front : (i x b : ℕ) → 0 < i → i ≤ length w → (b ≡ get_or w (i - 1) 0) × (b < 256) → Laned (drop i w) x → Laned (drop (i - 1) w) (x * 256 + b)
  unfolding lanes
  laned_front i x b o h p q =
      let e : suc (i - 1) ≡ i = omega arith in
      subst (λ l. Laned l (x * 256 + b)) (sym (drop-cons w (i - 1) 0 (omega arith) ∙ ap₂ (λ (y k : ℕ). y ∷ drop k w) (sym p.0) e))
      (record { same = ap (λ (y : ℕ). y * 256 + b) q.same; bytes = (p.1, q.bytes) })

  pub laned_rest : (i x : ℕ) → length w - i ≤ 7 → Laned (drop i w) x → x < 2 ^ 56
  laned_rest i x h p =
      let l = lanes_lt 8 (drop i w) p.bytes in
      lt_of_lt_of_le (subst (λ (y : ℕ). y < 2 ^ (8 * length (drop i w))) (sym p.same) l) (pow_mono {i = 8 * length (drop i w)} {j = 56} (omega (arith, length-drop i w)))

  pub laned_none : (i : ℕ) → length w ≤ i → Laned (drop i w) 0
  unfolding lanes
  laned_none i h = subst (λ l. Laned l 0) (sym (drop_of_length-le w h)) (record { same = refl; bytes = tt })

  pub laned_few : (at x : ℕ) → length w ≤ at + 8 → Laned (drop at w) x → Laned (take 8 (drop at w)) x
  laned_few at x h p = subst (λ l. Laned l x) (sym (take_all 8 (drop at w) (omega (arith, length-drop at w)))) p
