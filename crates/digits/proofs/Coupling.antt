-- Two numbers among eight bytes: what `couple_in` answers is what their digits say. Assumes nothing.
use Prim.Native.Nat.{ℕ, zero, suc, ◌+◌, ◌-◌, ◌*◌, ◌/◌, ◌%◌, ◌^◌, ◌≤◌, ◌<◌}
use native.Mathlib.Nat.{mul_assoc, add-mul, mul-one, mul-le-mul_right, mod-eq_of_lt, pow-zero}
use native.Mathlib.Omega.{arith}
use mathlib.Core.Path.{◌≡◌, refl, sym, ap, ap₂, subst, ◌∙◌}
use mathlib.Core.List.{List, [], ◌∷◌, ◌++◌, map}
use Rattle.std.specs.Prelude.{Option, Some, None}
use mathlib.Core.Bool.{Bool, true, false, ◌&&◌}
use borrow.Author.Tests.{lt-ltb, le-leb, lt-leb, le-ltb, eqb-true, eq-eqb, ne_eqb, leb-true, leb-false, ltb-true}
use lib.Dec.{leb, ltb, eqb, lit<, lit≤}
use lib.ListN.{length, take, drop, length-map, length-drop, take-append-drop}
use lib.Seq.{take-append_seam, length-take-le, take-add}
use lib.Bits.{bit_and, bit_or, bit_xor, and_block, and_self, and_zero_l, and_le_r, and_mask}
use lib.Count.{count_trailing_zeros, trailing_of_zero}
use lib.Pow.{pow-add, high, low, shl_exact}
use Rattle.facts.proofs.Maps.{map_append}
use Rattle.facts.proofs.Branch.{either, split}
use Rattle.facts.proofs.Decides.{and_split}
use Rattle.digits.specs.declared.group.Base.{Base}
use Rattle.digits.specs.declared.couple.Couple.{Couple}
use Rattle.digits.specs.Digits.{digit_of, digits_in, Figures}
use Rattle.digits.specs.Lanes.{lanes, Under, Laned, marks_of, values_of, folded_of}
use Rattle.digits.specs.Couples.{ends_of, end_in, nibbles_of, gap_of, end_of, couple, couple_by, couple_of}
use Rattle.digits.proofs.Digits.{digits_in_part}
use Rattle.digits.proofs.Laning.{written, trailing_shift}
use Rattle.digits.proofs.Grouping.{mark_of, value, value_is, marks_in, values_in, folded_in, both, same}
use Rattle.digits.proofs.Gathered.{zeros_of, passed, stopped, counted, under_left, written_worth}

-- ---- what the code computes
pub ends_are : (x : ℕ) → bit_xor (bit_and (bit_or (x * 2 ^ 1 % 2 ^ 64) (x * 2 ^ 3 % 2 ^ 64)) 0x8080808080808080) 0x8080808080808080 ≡ ends_of x
unfolding ends_of
ends_are x = refl

pub end_at : (x t : ℕ) → t ≡ ends_of x → gap_of t ≡ end_in x
unfolding end_in
end_at x t e = ap gap_of e

pub nibbles_are : (x v f : ℕ) → v ≡ values_of Base.Sixteen x → f ≡ folded_of 16 (bit_and v 0x0f0f0f0f0f0f0f0f) → f ≡ nibbles_of x
unfolding nibbles_of
nibbles_are x v f e g = g ∙ ap (λ (y : ℕ). folded_of 16 (bit_and y 0x0f0f0f0f0f0f0f0f)) e

module _ (n g e : ℕ) where
  abbrev choose : Bool → Option Couple
  choose t = elim t [ true ↦ couple (n / 2 ^ (32 - 4 * g)) (n / 2 ^ (32 - 4 * e) % 2 ^ (4 * (e - (g + 1)))) g e | false ↦ None ]

  pub couple_none : g < 1 → None ≡ couple_by n g e
  couple_none h = sym (λ i. choose (lt-leb 1 g h i && (leb e 7 && ltb (g + 1) e)))

  module _ (some : 1 ≤ g) where
    pub couple_long : 7 < e → None ≡ couple_by n g e
    couple_long h = sym (λ i. choose (le-leb 1 g some i && (lt-leb e 7 h i && ltb (g + 1) e)))

    module _ (few : e ≤ 7) where
      pub couple_single : e ≤ g + 1 → None ≡ couple_by n g e
      couple_single h = sym (λ i. choose (le-leb 1 g some i && (le-leb e 7 few i && le-ltb (g + 1) e h i)))

      pub couple_both : g + 1 < e → (m z : ℕ) → m ≡ n → z ≡ 2 ^ (4 * (e - (g + 1))) → couple (m / 2 ^ (32 - 4 * g)) (m / 2 ^ (32 - 4 * e) % z) g e ≡ couple_by n g e
      couple_both h m z p q =
          (λ i. couple (p i / 2 ^ (32 - 4 * g)) (p i / 2 ^ (32 - 4 * e) % q i) g e)
          ∙ sym (λ i. choose (le-leb 1 g some i && (le-leb e 7 few i && lt-ltb (g + 1) e h i)))

module _ (x t : ℕ) (e : t ≡ ends_of x) where
  abbrev pick : Bool → Option Couple
  pick b = elim b [ true ↦ couple_by (nibbles_of x) (gap_of (ends_of x)) (end_of (ends_of x)) | false ↦ None ]

  pub couple_empty : t ≡ 0 → None ≡ couple_of x
  unfolding couple_of
  couple_empty z = let w : ends_of x ≡ 0 = sym e ∙ z in sym (λ i. pick (ltb 0 (w i) && eqb (marks_of Base.Sixteen x) (ends_of x)))

  -- one marked lane alone
  pub couple_lone : bit_and t (t - 1) ≡ 0 → None ≡ couple_of x
  unfolding couple_of
  couple_lone z =
      let g = gap_of (ends_of x) in
      let last : end_of (ends_of x) ≡ 8 = ap end_of (sym e) ∙ ap (λ (y : ℕ). count_trailing_zeros 64 y / 8) z ∙ ap (λ (y : ℕ). y / 8) (trailing_of_zero 64) in
      let none : None ≡ couple_by (nibbles_of x) g (end_of (ends_of x)) =
      split (leb 1 g) (λ p. couple_long (nibbles_of x) g (end_of (ends_of x)) (leb-true 1 g p) (omega (arith, last))) (λ p. couple_none (nibbles_of x) g (end_of (ends_of x)) (leb-false 1 g p)) in
      either (λ (c : Option Couple). None ≡ c) (ltb 0 (ends_of x) && eqb (marks_of Base.Sixteen x) (ends_of x)) (λ _. none) (λ _. refl)

  module _ (some : t ≡ 0 → ⊥) (m : ℕ) (d : m ≡ marks_of Base.Sixteen x) where
    first_test : ltb 0 (ends_of x) ≡ true
    first_test = subst (λ (y : ℕ). ltb 0 y ≡ true) e (lt-ltb 0 t (omega (arith, some)))

    pub couple_other : (m ≡ t → ⊥) → None ≡ couple_of x
    unfolding couple_of
    couple_other n =
        let r : eqb (marks_of Base.Sixteen x) (ends_of x) ≡ false = subst (λ (y : ℕ). eqb y (ends_of x) ≡ false) d (subst (λ (y : ℕ). eqb m y ≡ false) e (ne_eqb m t n)) in
        sym (λ i. pick (first_test i && r i))

    pub couple_found : m ≡ t → (c : Option Couple) → c ≡ couple_by (nibbles_of x) (gap_of t) (end_of t) → c ≡ couple_of x
    unfolding couple_of
    couple_found n c h =
        let r : eqb (marks_of Base.Sixteen x) (ends_of x) ≡ true = subst (λ (y : ℕ). eqb y (ends_of x) ≡ true) d (subst (λ (y : ℕ). eqb m y ≡ true) e (eq-eqb m t n)) in
        h ∙ ap (λ (y : ℕ). couple_by (nibbles_of x) (gap_of y) (end_of y)) e ∙ sym (λ i. pick (first_test i && r i))

pub size_is : (k : ℕ) → k ≤ 60 → 1 * 2 ^ k % 2 ^ 64 ≡ 2 ^ k
size_is k h = shl_exact {a = 1} 1 k 64 (lit< tt) (omega arith) ∙ omega arith

-- ---- the second marked lane
abbrev marked : List ℕ → ℕ
marked w = lanes 8 (map (mark_of Base.Sixteen) w)

abbrev cleared : ℕ → ℕ
cleared t = bit_and t (t - 1)

clear_lane : (m : ℕ) → 0 < m → cleared (m * 2 ^ 8 + 0) ≡ cleared m * 2 ^ 8
clear_lane m h =
    let e : m * 2 ^ 8 + 0 - 1 ≡ (m - 1) * 2 ^ 8 + 255 = omega arith in
    ap (λ (y : ℕ). bit_and (m * 2 ^ 8 + 0) y) e ∙ and_block 8 m (m - 1) 0 255 (lit< tt) (lit< tt) ∙ ap (λ (y : ℕ). cleared m * 2 ^ 8 + y) (and_zero_l 255) ∙ omega arith

clear_mark : (m : ℕ) → cleared (m * 2 ^ 8 + 128) ≡ m * 2 ^ 8
clear_mark m =
    let e : m * 2 ^ 8 + 128 - 1 ≡ m * 2 ^ 8 + 127 = omega arith in
    let z : bit_and 128 127 ≡ 0 = refl in
    ap (λ (y : ℕ). bit_and (m * 2 ^ 8 + 128) y) e ∙ and_block 8 m m 128 127 (lit< tt) (lit< tt) ∙ ap₂ (λ (a b : ℕ). a * 2 ^ 8 + b) (and_self m) z ∙ omega arith

abbrev count_of : List ℕ → ℕ
count_of w = zeros_of Base.Sixteen w / 8

abbrev second_of : List ℕ → ℕ
second_of w = count_trailing_zeros (8 * length w) (cleared (marked w)) / 8

lane_on : (w : List ℕ) (y : ℕ) → count_trailing_zeros (8 * suc (length w)) (y * 2 ^ 8) / 8 ≡ 1 + count_trailing_zeros (8 * length w) y / 8
lane_on w y =
    let e : 8 * suc (length w) ≡ 8 + 8 * length w = omega arith in
    ap (λ (k : ℕ). count_trailing_zeros k (y * 2 ^ 8) / 8) e ∙ ap (λ (k : ℕ). k / 8) (trailing_shift 8 (8 * length w) y) ∙ omega arith

second_lane : (w : List ℕ) → 0 < marked w → second_of w ≡ count_of w + 1 + count_of (drop (count_of w + 1) w)
unfolding lanes
second_lane [] = λ h. absurd (omega (arith, h))
second_lane (b ∷ w) =
    let l : ℕ = marked w in
    either
    (λ (m : ℕ). 0 < l * 2 ^ 8 + m → count_trailing_zeros (8 * suc (length w)) (cleared (l * 2 ^ 8 + m)) / 8
    ≡ count_trailing_zeros (8 * suc (length w)) (l * 2 ^ 8 + m) / 8 + 1 + count_of (drop (count_trailing_zeros (8 * suc (length w)) (l * 2 ^ 8 + m) / 8 + 1) (b ∷ w)))
    (ltb (digit_of b) 16)
    (λ _ h. let o : 0 < l = omega (arith, h) in
    let c : count_trailing_zeros (8 * suc (length w)) (l * 2 ^ 8 + 0) / 8 ≡ suc (count_of w) = ap (λ (z : ℕ). z / 8) (passed Base.Sixteen w l) ∙ omega arith in
    let d : suc (count_of w) + 1 ≡ suc (count_of w + 1) = omega arith in
    ap (λ (y : ℕ). count_trailing_zeros (8 * suc (length w)) y / 8) (clear_lane l o) ∙ lane_on w (cleared l) ∙ ap (λ (y : ℕ). 1 + y) (second_lane w o)
    ∙ omega arith
    ∙ ap (λ (k : ℕ). k + count_of (drop k (b ∷ w))) (sym d) ∙ ap (λ (k : ℕ). k + 1 + count_of (drop (k + 1) (b ∷ w))) (sym c))
    (λ _ h. let c : count_trailing_zeros (8 * suc (length w)) (l * 2 ^ 8 + 128) / 8 ≡ 0 = ap (λ (z : ℕ). z / 8) (stopped Base.Sixteen w l) in
    ap (λ (y : ℕ). count_trailing_zeros (8 * suc (length w)) y / 8) (clear_mark l) ∙ lane_on w l ∙ ap (λ (k : ℕ). k + 1 + count_of (drop (k + 1) (b ∷ w))) (sym c))

-- ---- nibbles
abbrev nibble : ℕ → ℕ
nibble b = bit_and (value Base.Sixteen b) 15

small_value : (b : ℕ) → b < 256 → value Base.Sixteen b < 256
small_value b h = omega (arith, and_le_r b 15, nine b)
  where
    nine : (b : ℕ) → bit_and b 64 / 64 * 9 ≤ 9
    nine b = omega (arith, and_le_r b 64)

nibbles_under : (w : List ℕ) → Under 16 (map nibble w)
nibbles_under [] = tt
nibbles_under (b ∷ w) = (omega (arith, and_le_r (value Base.Sixteen b) 15), nibbles_under w)

abbrev nibs : List ℕ → ℕ
nibs w = written 16 0 (map nibble w)

written_more : (v : ℕ) (w : List ℕ) → written 16 v w ≡ v * 2 ^ (4 * length w) + written 16 0 w
written_more v [] = rw (pow-zero, mul-one v) (omega arith)
written_more v (d ∷ w) =
    let p : ℕ = 2 ^ (4 * length w) in
    let e : 4 * suc (length w) ≡ 4 + 4 * length w = omega arith in
    let q : 2 ^ (4 * suc (length w)) ≡ 16 * p = ap (λ (k : ℕ). 2 ^ k) e ∙ pow-add 2 4 (4 * length w) in
    let z : 0 * 16 + d ≡ d = omega arith in
    written_more (v * 16 + d) w
    ∙ omega (arith, add-mul (v * 16) d p, mul_assoc v 16 p, ap (λ (k : ℕ). v * k) q, written_more d w, ap (λ (k : ℕ). written 16 k w) z)

nibs_append : (p q : List ℕ) → nibs (p ++ q) ≡ nibs p * 2 ^ (4 * length q) + nibs q
nibs_append p q = ap (written 16 0) (map_append nibble p q) ∙ on (map nibble p) 0 ∙ written_more (nibs p) (map nibble q) ∙ ap (λ (k : ℕ). nibs p * 2 ^ (4 * k) + nibs q) (length-map q nibble)
  where
    on : (u : List ℕ) (v : ℕ) → written 16 v (u ++ map nibble q) ≡ written 16 (written 16 v u) (map nibble q)
    on [] v = refl
    on (d ∷ u) v = on u (v * 16 + d)

nibs_lt : (w : List ℕ) → nibs w < 2 ^ (4 * length w)
nibs_lt [] = lit< tt
nibs_lt (b ∷ w) =
    let p : ℕ = 2 ^ (4 * length w) in
    let e : 4 * suc (length w) ≡ 4 + 4 * length w = omega arith in
    let q : 2 ^ (4 * suc (length w)) ≡ 16 * p = ap (λ (k : ℕ). 2 ^ k) e ∙ pow-add 2 4 (4 * length w) in
    let n : nibble b ≤ 15 = and_le_r (value Base.Sixteen b) 15 in
    let m : nibble b * p ≤ 15 * p = mul-le-mul_right p n in
    omega (arith, q, m, nibs_lt w, nibs_append (b ∷ []) w)

nibble_is : (b : ℕ) → b < 256 → digit_of b < 16 → nibble b ≡ digit_of b
nibble_is b h d = ap (λ (k : ℕ). bit_and k 15) (value_is Base.Sixteen b h d) ∙ and_mask (digit_of b) 4 ∙ mod-eq_of_lt d

nibbles_digits : (w : List ℕ) → Figures 16 w → Under 256 w → map nibble w ≡ map digit_of w
nibbles_digits [] f u = refl
nibbles_digits (b ∷ w) f u = ap₂ (λ c l. c ∷ l) (nibble_is b u.0 f.0) (nibbles_digits w f.1 u.1)

-- the digits at the start of some bytes
nibs_digits : (w : List ℕ) → Under 256 w → nibs (take (digits_in 16 0 0 w).count w) ≡ (digits_in 16 0 0 w).value
nibs_digits w u =
    let r = digits_in_part 16 w 0 0 in
    let d = digits_in 16 0 0 w in
    let long : d.count ≡ length r.run = omega (arith, r.count) in
    let word : take d.count w ≡ r.run = ap (λ (k : ℕ). take k w) long ∙ ap (λ l. take (length r.run) l) r.parted ∙ take-append_seam r.run d.rest in
    ap nibs word ∙ ap (written 16 0) (nibbles_digits r.run r.figures (under_left 256 r.run d.rest (subst (Under 256) r.parted u)))
    ∙ written_worth Base.Sixteen r.run 0 ∙ sym r.value

-- the first k of n digits
nibs_take : (w : List ℕ) (k : ℕ) → k ≤ length w → nibs w / 2 ^ (4 * length w - 4 * k) ≡ nibs (take k w)
nibs_take w k h =
    let q = drop k w in
    let n : 4 * length q ≡ 4 * length w - 4 * k = omega (arith, length-drop k w) in
    ap (λ (y : ℕ). nibs w / 2 ^ y) (sym n) ∙ ap (λ l. nibs l / 2 ^ (4 * length q)) (sym (take-append-drop k w))
    ∙ ap (λ (y : ℕ). y / 2 ^ (4 * length q)) (nibs_append (take k w) q) ∙ high (nibs (take k w)) (4 * length q) (nibs_lt q)

under_drop : (n k : ℕ) (w : List ℕ) → Under n w → Under n (drop k w)
under_drop n zero w u = u
under_drop n (suc k) [] u = tt
under_drop n (suc k) (b ∷ w) u = under_drop n k w u.1

-- ---- what is found
-- the digits at the start of eight bytes and those behind the next byte, and that both end among the eight
pub record Coupled (w : List ℕ) (f v g e : ℕ) : Type 0 where
  pub first : (digits_in 16 0 0 w).value ≡ f
  pub gap : (digits_in 16 0 0 w).count ≡ g
  pub second : (digits_in 16 0 0 (drop (g + 1) w)).value ≡ v
  pub end : g + 1 + (digits_in 16 0 0 (drop (g + 1) w)).count ≡ e
  pub some : 1 ≤ g
  pub more : g + 1 < e
  pub few : e ≤ 7

module _ (w : List ℕ) (n : length w ≡ 8) (u : Under 256 w) where
  nibbles_in : nibbles_of (lanes 8 w) ≡ nibs w
  unfolding nibbles_of lanes
  nibbles_in =
      ap (folded_of 16) (both w n u bit_and and_block refl (value Base.Sixteen) (λ _. 15) small_value (λ b h. lit< tt) (values_in w n u Base.Sixteen) (same w n u 15 0x0f0f0f0f0f0f0f0f refl))
      ∙ folded_in 16 (lit≤ tt) (map nibble w) (length-map w nibble ∙ n) (nibbles_under w)

  count_is : (l : List ℕ) → count_of l ≡ (digits_in 16 0 0 l).count
  count_is l = omega (arith, counted Base.Sixteen l 0 0)

  module _ (t : ℕ) (m : marks_of Base.Sixteen (lanes 8 w) ≡ t) (o : 0 < t) where
    eight : 64 ≡ 8 * length w
    eight = omega (arith, n)

    t_is : t ≡ marked w
    t_is = sym m ∙ marks_in w n u Base.Sixteen

    gap_is : gap_of t ≡ count_of w
    gap_is = ap₂ (λ (k y : ℕ). count_trailing_zeros k y / 8) eight t_is

    end_is : end_of t ≡ count_of w + 1 + count_of (drop (count_of w + 1) w)
    end_is = ap₂ (λ (k y : ℕ). count_trailing_zeros k (cleared y) / 8) eight t_is ∙ second_lane w (subst (λ (y : ℕ). 0 < y) t_is o)

    found : (some : 1 ≤ gap_of t) (few : end_of t ≤ 7) (more : gap_of t + 1 < end_of t)
        → Coupled w (nibbles_of (lanes 8 w) / 2 ^ (32 - 4 * gap_of t)) (nibbles_of (lanes 8 w) / 2 ^ (32 - 4 * end_of t) % 2 ^ (4 * (end_of t - (gap_of t + 1)))) (gap_of t) (end_of t)
    found some few more =
        let g = gap_of t in
        let e = end_of t in
        let l = drop (g + 1) w in
        let size : 32 ≡ 4 * length w = omega (arith, n) in
        let c : (digits_in 16 0 0 w).count ≡ g = sym (count_is w) ∙ sym gap_is in
        let d : g + 1 + (digits_in 16 0 0 l).count ≡ e = ap (λ (k : ℕ). g + 1 + k) (sym (count_is l)) ∙ ap (λ (k : ℕ). k + 1 + count_of (drop (k + 1) w)) gap_is ∙ sym end_is in
        let k : e - (g + 1) ≡ (digits_in 16 0 0 l).count = omega (arith, d) in
        let q = take (digits_in 16 0 0 l).count l in
        let long : length q ≡ e - (g + 1) = length-take-le (digits_in 16 0 0 l).count l (omega (arith, n, few, d, length-drop (g + 1) w)) ∙ sym k in
        let part : nibbles_of (lanes 8 w) / 2 ^ (32 - 4 * e) ≡ nibs (take (g + 1) w) * 2 ^ (4 * (e - (g + 1))) + nibs q =
        ap₂ (λ (a b : ℕ). a / 2 ^ (b - 4 * e)) nibbles_in size ∙ nibs_take w e (omega (arith, n, few)) ∙ ap (λ (y : ℕ). nibs (take y w)) (sym d) ∙ ap nibs (take-add (g + 1) (digits_in 16 0 0 l).count w)
        ∙ nibs_append (take (g + 1) w) q ∙ ap (λ (y : ℕ). nibs (take (g + 1) w) * 2 ^ (4 * y) + nibs q) long in
        let small : nibs q < 2 ^ (4 * (e - (g + 1))) = subst (λ (y : ℕ). nibs q < 2 ^ (4 * y)) long (nibs_lt q) in
        record {
          first = sym (ap₂ (λ (a b : ℕ). a / 2 ^ (b - 4 * g)) nibbles_in size ∙ nibs_take w g (omega (arith, n, more, few)) ∙ ap (λ (y : ℕ). nibs (take y w)) (sym c) ∙ nibs_digits w u);
          gap = c;
          second = sym (ap (λ (y : ℕ). y % 2 ^ (4 * (e - (g + 1)))) part ∙ low (nibs (take (g + 1) w)) (4 * (e - (g + 1))) small ∙ nibs_digits l (under_drop 256 (g + 1) w u));
          end = d;
          some = some;
          more = more;
          few = few;
        }

-- the same of whatever answer it is
abbrev pub CoupledBy : List ℕ → Option Couple → Type 0
CoupledBy w (Some c) = Coupled w c.first c.second c.gap c.end
CoupledBy w None = Unit

by_coupled : (w : List ℕ) (n : length w ≡ 8) (u : Under 256 w) (t : ℕ) → marks_of Base.Sixteen (lanes 8 w) ≡ t → 0 < t → CoupledBy w (couple_by (nibbles_of (lanes 8 w)) (gap_of t) (end_of t))
by_coupled w n u t m o =
    let g = gap_of t in
    let e = end_of t in
    either (CoupledBy w) (leb 1 g && (leb e 7 && ltb (g + 1) e))
    (λ p. let a = and_split (leb 1 g) _ p in
    let b = and_split (leb e 7) (ltb (g + 1) e) a.1 in
    found w n u t m o (leb-true 1 g a.0) (leb-true e 7 b.0) (ltb-true (g + 1) e b.1))
    (λ _. tt)

pub couple_says : (w : List ℕ) (x : ℕ) → Laned w x → length w ≡ 8 → CoupledBy w (couple_of x)
unfolding couple_of
couple_says w x l n =
    subst (λ (y : ℕ). CoupledBy w (couple_of y)) (sym l.same)
    (either (CoupledBy w) (ltb 0 (ends_of (lanes 8 w)) && eqb (marks_of Base.Sixteen (lanes 8 w)) (ends_of (lanes 8 w)))
    (λ p. let a = and_split (ltb 0 (ends_of (lanes 8 w))) _ p in
    by_coupled w n l.bytes (ends_of (lanes 8 w)) (eqb-true _ _ a.1) (ltb-true 0 _ a.0))
    (λ _. tt))
