-- Lanes of one number: what is done to the number is done to each lane. Assumes nothing.
use Prim.Native.Nat.{ℕ, zero, suc, ◌+◌, ◌-◌, ◌*◌, ◌/◌, ◌%◌, ◌^◌, ◌≤◌, ◌<◌}
use native.Mathlib.Nat.{mul_assoc, mul-one, mul-zero, zero-mul, add-mul, mul_comm, mul-le-mul_right, mul-suc, pow-zero, lt_of_lt_of_le, mod-lt}
use native.Mathlib.Omega.{arith}
use mathlib.Core.Path.{◌≡◌, refl, sym, ap, ap₂, subst, ◌∙◌}
use mathlib.Core.List.{List, [], ◌∷◌, ◌++◌, map}
use lib.ListN.{length, replicate, length-append, length-replicate}
use lib.Dec.{lit≤}
use lib.Bits.{bit_and, shifted_half, shifted_even, and_block, and_mask, and_zero_r}
use lib.Pow.{pow_pos, pow-add, high, low, split, ones_lt, pow_mono}
use lib.Count.{count_trailing_zeros, under}
use Rattle.digits.specs.Lanes.{lanes, Under, Laned}

-- ---- lists
pub under_append : (n : ℕ) (u v : List ℕ) → Under n u → Under n v → Under n (u ++ v)
under_append n [] v b c = c
under_append n (x ∷ u) v b c = (b.0, under_append n u v b.1 c)

pub under_more : (m n : ℕ) → m ≤ n → (w : List ℕ) → Under m w → Under n w
under_more m n h [] u = tt
under_more m n h (b ∷ w) u = (omega (arith, u.0), under_more m n h w u.1)

pub under_zeros : (n m : ℕ) → 0 < n → Under n (replicate m 0)
under_zeros n zero h = tt
under_zeros n (suc m) h = (h, under_zeros n m h)

-- ---- lanes one behind the other
module _ (k : ℕ) where
  longer : (n : ℕ) → 2 ^ (k * suc n) ≡ 2 ^ (k * n) * 2 ^ k
  longer n = ap (λ (m : ℕ). 2 ^ m) (mul-suc k n) ∙ pow-add 2 (k * n) k

  pub lanes_append : (u v : List ℕ) → lanes k (u ++ v) ≡ lanes k v * 2 ^ (k * length u) + lanes k u
  unfolding lanes
  lanes_append [] v = rw (mul-zero k, pow-zero, mul-one (lanes k v)) (omega arith)
  lanes_append (b ∷ u) v =
      let p : ℕ = 2 ^ (k * length u) in
      let e : (lanes k v * p + lanes k u) * 2 ^ k ≡ lanes k v * (p * 2 ^ k) + lanes k u * 2 ^ k =
      add-mul (lanes k v * p) (lanes k u) (2 ^ k) ∙ ap (λ (m : ℕ). m + lanes k u * 2 ^ k) (mul_assoc (lanes k v) p (2 ^ k)) in
      ap (λ (m : ℕ). m * 2 ^ k + b) (lanes_append u v) ∙ ap (λ (m : ℕ). m + b) (e ∙ ap (λ (m : ℕ). lanes k v * m + lanes k u * 2 ^ k) (sym (longer (length u)))) ∙ omega arith

  pub lanes_lt : (w : List ℕ) → Under (2 ^ k) w → lanes k w < 2 ^ (k * length w)
  unfolding lanes
  lanes_lt [] b = pow_pos (k * 0)
  lanes_lt (b ∷ w) u =
      let more : lanes k w * 2 ^ k + 2 ^ k ≤ 2 ^ (k * length w) * 2 ^ k = omega (arith, mul-le-mul_right (2 ^ k) (lanes_lt w u.1), add-mul (lanes k w) 1 (2 ^ k)) in
      subst (λ (m : ℕ). lanes k w * 2 ^ k + b < m) (sym (longer (length w))) (omega (arith, more, u.0))

  pub lanes_zeros : (n : ℕ) → lanes k (replicate n 0) ≡ 0
  unfolding lanes
  lanes_zeros zero = refl
  lanes_zeros (suc n) = ap (λ (m : ℕ). m * 2 ^ k + 0) (lanes_zeros n) ∙ omega (arith, zero-mul (2 ^ k))

  pub lanes_times : (g : ℕ → ℕ) (c : ℕ) (w : List ℕ) → lanes k (map (λ b. g b * c) w) ≡ lanes k (map g w) * c
  unfolding lanes
  lanes_times g c [] = sym (zero-mul c)
  lanes_times g c (b ∷ w) =
      let l : ℕ = lanes k (map g w) in
      ap (λ (m : ℕ). m * 2 ^ k + g b * c) (lanes_times g c w)
      ∙ omega (arith, add-mul (l * 2 ^ k) (g b) c, mul_assoc l c (2 ^ k), mul_assoc l (2 ^ k) c, ap (λ (m : ℕ). l * m) (mul_comm c (2 ^ k)))

-- ---- fewer than eight bytes are followed by zeros
unfoldable pub padded : List ℕ → List ℕ
padded w = w ++ replicate (8 - length w) 0

pub padded_eight : (w : List ℕ) → length w ≤ 8 → length (padded w) ≡ 8
unfolding padded
padded_eight w h = length-append w (replicate (8 - length w) 0) ∙ omega (arith, length-replicate {A = ℕ} (8 - length w) 0)

module _ (x : ℕ) (w : List ℕ) (l : Laned w x) where
  pub padded_under : Under 256 (padded w)
  unfolding padded
  padded_under = under_append 256 w (replicate (8 - length w) 0) l.bytes (under_zeros 256 (8 - length w) (lit≤ tt))

  pub padded_same : x ≡ lanes 8 (padded w)
  unfolding padded
  padded_same =
      let m : ℕ = 8 - length w in
      l.same ∙ sym (lanes_append 8 w (replicate m 0) ∙ ap (λ (z : ℕ). z * 2 ^ (8 * length w) + lanes 8 w) (lanes_zeros 8 m) ∙ omega (arith, zero-mul (2 ^ (8 * length w))))

-- ---- an operation that works on blocks apart works on lanes apart
abbrev pub Apart : (ℕ → ℕ → ℕ) → Type 0
Apart op = (k a b r s : ℕ) → r < 2 ^ k → s < 2 ^ k → op (a * 2 ^ k + r) (b * 2 ^ k + s) ≡ op a b * 2 ^ k + op r s

abbrev pub Small : (ℕ → ℕ) → Type 0
Small g = (b : ℕ) → b < 256 → g b < 256

pub sum_apart : Apart (λ a b. a + b)
sum_apart k a b r s h l = omega (arith, add-mul a b (2 ^ k))

module _ (op : ℕ → ℕ → ℕ) (apart : Apart op) (none : op zero zero ≡ zero) where
  pub lanewise : (g h : ℕ → ℕ) → Small g → Small h → (w : List ℕ) → Under 256 w → op (lanes 8 (map g w)) (lanes 8 (map h w)) ≡ lanes 8 (map (λ b. op (g b) (h b)) w)
  unfolding lanes
  lanewise g h sg sh [] bs = none
  lanewise g h sg sh (b ∷ w) bs =
      apart 8 (lanes 8 (map g w)) (lanes 8 (map h w)) (g b) (h b) (sg b bs.0) (sh b bs.0)
      ∙ ap (λ (n : ℕ). n * 2 ^ 8 + op (g b) (h b)) (lanewise g h sg sh w bs.1)

-- ---- the lowest lane that is not 0
pub trailing_shift : (k j n : ℕ) → count_trailing_zeros (k + j) (n * 2 ^ k) ≡ k + count_trailing_zeros j n
unfolding count_trailing_zeros
trailing_shift zero j n =
    let e : 0 + j ≡ j = omega arith in
    let f : 0 + count_trailing_zeros j n ≡ count_trailing_zeros j n = omega arith in
    ap₂ count_trailing_zeros e (mul-one n) ∙ sym f
trailing_shift (suc k) j n =
    let e : suc k + j ≡ suc (k + j) = omega arith in
    let f : suc (k + count_trailing_zeros j n) ≡ suc k + count_trailing_zeros j n = omega arith in
    ap (λ (m : ℕ). count_trailing_zeros m (n * 2 ^ suc k)) e
    ∙ ap₂ (λ (a b : ℕ). under a (count_trailing_zeros (k + j) b)) (shifted_even n k) (shifted_half n k)
    ∙ ap suc (trailing_shift k j n) ∙ f

-- ---- neighbouring lanes as one: the mask keeps every other lane
abbrev pub evens : ℕ → ℕ → ℕ
evens k zero = zero
evens k (suc m) = evens k m * 2 ^ (k + k) + (2 ^ k - 1)

abbrev pub pair_up : ℕ → List ℕ → List ℕ
pair_up b [] = []
pair_up b (d ∷ []) = []
pair_up b (d ∷ e ∷ w) = (d * b + e) ∷ pair_up b w

module _ (k : ℕ) where
  twice : 2 ^ (k + k) ≡ 2 ^ k * 2 ^ k
  twice = pow-add 2 k k

  inside : (d e : ℕ) → d < 2 ^ k → e < 2 ^ k → e * 2 ^ k + d < 2 ^ (k + k)
  inside d e h l = omega (arith, twice, mul-le-mul_right (2 ^ k) l, add-mul e 1 (2 ^ k))

  -- the lowest lane of a number, and what stands two lanes higher
  masked : (l m d e : ℕ) → d < 2 ^ k → e < 2 ^ k → bit_and (l * 2 ^ (k + k) + (e * 2 ^ k + d)) (evens k (suc m)) ≡ bit_and l (evens k m) * 2 ^ (k + k) + d
  masked l m d e h g =
      and_block (k + k) l (evens k m) (e * 2 ^ k + d) (2 ^ k - 1) (inside d e h g) (lt_of_lt_of_le (ones_lt k) (pow_mono (omega arith)))
      ∙ ap (λ (n : ℕ). bit_and l (evens k m) * 2 ^ (k + k) + n) (and_mask (e * 2 ^ k + d) k ∙ low e k h)

  module _ (l d e : ℕ) (h : d < 2 ^ k) (g : e < 2 ^ k) where
    first : (l * 2 ^ k + e) * 2 ^ k + d ≡ l * 2 ^ (k + k) + (e * 2 ^ k + d)
    first = omega (arith, add-mul (l * 2 ^ k) e (2 ^ k), mul_assoc l (2 ^ k) (2 ^ k), ap (λ (n : ℕ). l * n) twice)

    second : ((l * 2 ^ k + e) * 2 ^ k + d) / 2 ^ k ≡ l / 2 ^ k * 2 ^ (k + k) + (l % 2 ^ k * 2 ^ k + e)
    second =
        let q : ℕ = l / 2 ^ k in
        high (l * 2 ^ k + e) k h
        ∙ ap (λ (n : ℕ). n * 2 ^ k + e) (sym (split l k))
        ∙ omega (arith, add-mul (q * 2 ^ k) (l % 2 ^ k) (2 ^ k), mul_assoc q (2 ^ k) (2 ^ k), ap (λ (n : ℕ). q * n) twice)

  pub paired_lanes : (b m : ℕ) (w : List ℕ) → length w ≡ m + m → Under (2 ^ k) w
      → bit_and (lanes k w) (evens k m) * b + bit_and (lanes k w / 2 ^ k) (evens k m) ≡ lanes (k + k) (pair_up b w)
  unfolding lanes
  paired_lanes b zero [] n u = ap₂ (λ (x y : ℕ). x * b + y) (and_zero_r 0) (and_zero_r (0 / 2 ^ k)) ∙ omega (arith, zero-mul b)
  paired_lanes b zero (d ∷ w) n u = absurd (omega (arith, n))
  paired_lanes b (suc m) [] n u = absurd (omega (arith, n))
  paired_lanes b (suc m) (d ∷ []) n u = absurd (omega (arith, n))
  paired_lanes b (suc m) (d ∷ e ∷ w) n u =
      let l : ℕ = lanes k w in
      let p : ℕ = bit_and l (evens k m) in
      let q : ℕ = bit_and (l / 2 ^ k) (evens k m) in
      let h = u.0 in
      let g = u.1.0 in
      let e₁ = ap (λ (x : ℕ). bit_and x (evens k (suc m))) (first l d e h g) ∙ masked l m d e h g in
      let e₂ = ap (λ (x : ℕ). bit_and x (evens k (suc m))) (second l d e h g) ∙ masked (l / 2 ^ k) m e (l % 2 ^ k) g (mod-lt l (pow_pos k)) in
      ap₂ (λ (x y : ℕ). x * b + y) e₁ e₂
      ∙ swap p q (2 ^ (k + k)) d e
      ∙ ap (λ (x : ℕ). x * 2 ^ (k + k) + (d * b + e)) (paired_lanes b m w (omega (arith, n)) u.1.1)
    where
      swap : (p q x d e : ℕ) → (p * x + d) * b + (q * x + e) ≡ (p * b + q) * x + (d * b + e)
      swap p q x d e = omega (arith, add-mul (p * x) d b, add-mul (p * b) q x, mul_assoc p x b, mul_assoc p b x, ap (λ (n : ℕ). p * n) (mul_comm x b))

pub paired_under : (b : ℕ) (w : List ℕ) → Under b w → Under (b * b) (pair_up b w)
paired_under b [] u = tt
paired_under b (d ∷ []) u = tt
paired_under b (d ∷ e ∷ w) u = (omega (arith, u.1.0, mul-le-mul_right b u.0, add-mul d 1 b), paired_under b w u.1.1)

pub paired_half : (b m : ℕ) (w : List ℕ) → length w ≡ m + m → length (pair_up b w) ≡ m
paired_half b zero [] n = refl
paired_half b zero (d ∷ w) n = absurd (omega (arith, n))
paired_half b (suc m) [] n = absurd (omega (arith, n))
paired_half b (suc m) (d ∷ []) n = absurd (omega (arith, n))
paired_half b (suc m) (d ∷ e ∷ w) n = ap suc (paired_half b m w (omega (arith, n)))

-- ---- the number that digits write
abbrev pub written : ℕ → ℕ → List ℕ → ℕ
written b v [] = v
written b v (d ∷ w) = written b (v * b + d) w

pub paired_written : (b m v : ℕ) (w : List ℕ) → length w ≡ m + m → written (b * b) v (pair_up b w) ≡ written b v w
paired_written b zero v [] n = refl
paired_written b zero v (d ∷ w) n = absurd (omega (arith, n))
paired_written b (suc m) v [] n = absurd (omega (arith, n))
paired_written b (suc m) v (d ∷ []) n = absurd (omega (arith, n))
paired_written b (suc m) v (d ∷ e ∷ w) n =
    let s : v * (b * b) + (d * b + e) ≡ (v * b + d) * b + e = omega (arith, add-mul (v * b) d b, mul_assoc v b b) in
    paired_written b m (v * (b * b) + (d * b + e)) w (omega (arith, n)) ∙ ap (λ (x : ℕ). written b x w) s

-- zeros in front write nothing
pub written_zeros : (b n : ℕ) (w : List ℕ) → written b 0 (replicate n 0 ++ w) ≡ written b 0 w
written_zeros b zero w = refl
written_zeros b (suc n) w = let z : 0 * b + 0 ≡ 0 = omega (arith, zero-mul b) in ap (λ (v : ℕ). written b v (replicate n 0 ++ w)) z ∙ written_zeros b n w

pub written_alone : (k b : ℕ) (w : List ℕ) → length w ≡ 1 → lanes k w ≡ written b 0 w
unfolding lanes
written_alone k b [] n = absurd (omega (arith, n))
written_alone k b (v ∷ []) n = omega (arith, zero-mul b, zero-mul (2 ^ k))
written_alone k b (v ∷ d ∷ w) n = absurd (omega (arith, n))
