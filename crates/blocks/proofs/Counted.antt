-- Eight bytes, all of them digits and blanks: what their lanes say of the words. Assumes nothing.
use Prim.Native.Nat.{ℕ, zero, suc, ◌+◌, ◌*◌, ◌%◌, ◌^◌, ◌<◌}
use native.Mathlib.Nat.{lt_of_le_of_lt, mod-eq_of_lt, mul-add-mod_self_right, pow-suc}
use native.Mathlib.Omega.{arith}
use mathlib.Core.Path.{◌≡◌, refl, sym, ap, ap₂, subst, ◌∙◌}
use mathlib.Core.List.{List, [], ◌∷◌, ◌++◌, map}
use mathlib.Core.Bool.{Bool, true, false, not}
use borrow.Author.Tests.{eqb-true, ltb-true, ltb-false}
use lib.Dec.{eqb, ltb, lit<, lit≤}
use lib.ListN.{length, replicate, length-map}
use lib.Bits.{bit_and, bit_or, bit_xor, and_block, or_block, xor_block, and_le_l, and_lt, or_zero_r}
use lib.Count.{ones, ones_cat, count_leading_zeros, leading_top, leading_unique}
use lib.Pow.{pow-add}
use Rattle.facts.proofs.Branch.{split, either}
use Rattle.tokens.specs.Tokens.{is_blank}
use Rattle.digits.specs.Lanes.{lanes, Under}
use Rattle.digits.proofs.Laning.{Small, lanes_append, lanes_lt}
use Rattle.digits.proofs.Grouping.{each, each_is, map_same, small_and, both, same, whole, masked, unlike, small_unlike, unlike_in}
use Rattle.blocks.specs.Blocks.{blanks_of, carry_of, words_of, is_hex, Plain, one, ends, tail}

-- ---- blanks
abbrev blank : ℕ → ℕ
blank b = bit_xor (bit_and (bit_and (bit_and (unlike b 32) (unlike b 10)) (unlike (bit_and b 251) 9)) 128) 128

abbrev pub blank_of : ℕ → ℕ
blank_of b = elim (is_blank b) [ true ↦ 128 | false ↦ 0 ]

blanks_all : each 256 (λ b. eqb (blank b) (blank_of b)) ≡ true
blanks_all = refl

blank_is : (b : ℕ) → b < 256 → blank b ≡ blank_of b
blank_is b h = eqb-true _ _ (each_is 256 (λ c. eqb (blank c) (blank_of c)) blanks_all b h)

module _ (w : List ℕ) (n : length w ≡ 8) (u : Under 256 w) where
  pub blanks_in : blanks_of (lanes 8 w) ≡ lanes 8 (map blank_of w)
  unfolding lanes
  blanks_in =
      let top = same w n u 128 0x8080808080808080 refl in
      let si : Small (λ b. b) = λ b h. h in
      let sm = small_and (λ b. b) 251 (lit< tt) in
      let s₁ = small_unlike (λ b. b) 32 si (lit< tt) in
      let s₂ = small_unlike (λ b. b) 10 si (lit< tt) in
      let s₃ = small_unlike (λ b. bit_and b 251) 9 sm (lit< tt) in
      let a = unlike_in w n u (λ b. b) 32 0x2020202020202020 si (lit< tt) refl (whole w n u) in
      let b = unlike_in w n u (λ b. b) 10 0x0a0a0a0a0a0a0a0a si (lit< tt) refl (whole w n u) in
      let c = unlike_in w n u (λ b. bit_and b 251) 9 0x0909090909090909 sm (lit< tt) refl (masked w n u 251 0xfbfbfbfbfbfbfbfb (lit< tt) refl) in
      let ab = both w n u bit_and and_block refl (λ b. unlike b 32) (λ b. unlike b 10) s₁ s₂ a b in
      let sab : Small (λ b. bit_and (unlike b 32) (unlike b 10)) = λ b h. and_lt 8 _ _ (s₁ b h) (s₂ b h) in
      let abc = both w n u bit_and and_block refl (λ b. bit_and (unlike b 32) (unlike b 10)) (λ b. unlike (bit_and b 251) 9) sab s₃ ab c in
      let sabc : Small (λ b. bit_and (bit_and (unlike b 32) (unlike b 10)) (unlike (bit_and b 251) 9)) = λ b h. and_lt 8 _ _ (sab b h) (s₃ b h) in
      let high = both w n u bit_and and_block refl (λ b. bit_and (bit_and (unlike b 32) (unlike b 10)) (unlike (bit_and b 251) 9)) (λ _. 128) sabc (λ b h. lit< tt) abc top in
      both w n u bit_xor xor_block refl (λ b. bit_and (bit_and (bit_and (unlike b 32) (unlike b 10)) (unlike (bit_and b 251) 9)) 128) (λ _. 128) (small_and (λ b. bit_and (bit_and (unlike b 32) (unlike b 10)) (unlike (bit_and b 251) 9)) 128 (lit< tt)) (λ b h. lit< tt) high top
      ∙ ap (lanes 8) (map_same blank blank_of blank_is w u)

-- ---- the same lanes are the same bytes
pub lanes_same : (u v : List ℕ) → length u ≡ length v → Under 256 u → Under 256 v → lanes 8 u ≡ lanes 8 v → u ≡ v
unfolding lanes
lanes_same [] [] n a b e = refl
lanes_same [] (c ∷ v) n a b e = absurd (omega (arith, n))
lanes_same (c ∷ u) [] n a b e = absurd (omega (arith, n))
lanes_same (c ∷ u) (d ∷ v) n a b e =
    let first : c ≡ d = omega (arith, e, a.0, b.0) in
    let rest : lanes 8 u ≡ lanes 8 v = omega (arith, e, first) in
    ap₂ (λ x l. x ∷ l) first (lanes_same u v (omega (arith, n)) a.1 b.1 rest)

abbrev off : Bool → ℕ
off p = elim p [ true ↦ 0 | false ↦ 128 ]

abbrev on : Bool → ℕ
on p = elim p [ true ↦ 128 | false ↦ 0 ]

abbrev pub none_of : ℕ → ℕ
none_of b = off (is_hex b)

abbrev digit_lane : ℕ → ℕ
digit_lane b = on (is_hex b)

pub none_small : (b : ℕ) → none_of b < 256
none_small b = either (λ (m : ℕ). m < 256) (is_hex b) (λ _. lit< tt) (λ _. lit< tt)

pub blank_small : (b : ℕ) → blank_of b < 256
blank_small b = either (λ (m : ℕ). m < 256) (is_blank b) (λ _. lit< tt) (λ _. lit< tt)

digit_small : (b : ℕ) → digit_lane b < 256
digit_small b = either (λ (m : ℕ). m < 256) (is_hex b) (λ _. lit< tt) (λ _. lit< tt)

pub under_map : (f : ℕ → ℕ) → ((b : ℕ) → f b < 256) → (w : List ℕ) → Under 256 (map f w)
under_map f h [] = tt
under_map f h (b ∷ w) = (h b, under_map f h w)

alike : (p q : Bool) → off p ≡ on q → q ≡ not p
alike true true e = absurd (omega (arith, e))
alike true false e = refl
alike false true e = refl
alike false false e = absurd (omega (arith, e))

pub plain_by : (w : List ℕ) → map none_of w ≡ map blank_of w → Plain w
plain_by [] e = tt
plain_by (b ∷ w) e = (alike (is_hex b) (is_blank b) (ap head_of e), plain_by w (ap rest_of e))
  where
    head_of : List ℕ → ℕ
    head_of [] = 0
    head_of (c ∷ l) = c

    rest_of : List ℕ → List ℕ
    rest_of [] = []
    rest_of (c ∷ l) = l

-- ---- words end at blanks behind digits
abbrev shift_in : ℕ → List ℕ → List ℕ
shift_in p [] = []
shift_in p (b ∷ w) = p ∷ shift_in (digit_lane b) w

abbrev lastly : ℕ → List ℕ → ℕ
lastly p [] = p
lastly p (b ∷ w) = lastly (digit_lane b) w

abbrev ended : ℕ → List ℕ → List ℕ
ended p [] = []
ended p (b ∷ w) = bit_and (none_of b) p ∷ ended (digit_lane b) w

shifted_all : (p : ℕ) (w : List ℕ) → shift_in p w ++ (lastly p w ∷ []) ≡ p ∷ map digit_lane w
shifted_all p [] = refl
shifted_all p (b ∷ w) = ap (λ l. p ∷ l) (shifted_all (digit_lane b) w)

shifted_length : (p : ℕ) (w : List ℕ) → length (shift_in p w) ≡ length w
shifted_length p [] = refl
shifted_length p (b ∷ w) = ap suc (shifted_length (digit_lane b) w)

shifted_under : (p : ℕ) (w : List ℕ) → p < 256 → Under 256 (shift_in p w)
shifted_under p [] h = tt
shifted_under p (b ∷ w) h = (h, shifted_under (digit_lane b) w (digit_small b))

ended_in : (p : ℕ) (w : List ℕ) → p < 256 → bit_and (lanes 8 (map none_of w)) (lanes 8 (shift_in p w)) ≡ lanes 8 (ended p w)
unfolding lanes
ended_in p [] h = refl
ended_in p (b ∷ w) h =
    and_block 8 (lanes 8 (map none_of w)) (lanes 8 (shift_in (digit_lane b) w)) (none_of b) p (none_small b) h
    ∙ ap (λ (m : ℕ). m * 2 ^ 8 + bit_and (none_of b) p) (ended_in (digit_lane b) w (digit_small b))

one_end : (t : ℕ) → ones (bit_and 128 (carry_of t)) ≡ one t
unfolding ones
one_end zero = refl
one_end (suc t) = refl

carry_small : (t : ℕ) → carry_of t < 256
carry_small zero = lit< tt
carry_small (suc t) = lit< tt

abbrev pub chosen : Bool → ℕ → ℕ → ℕ
chosen q a b = elim q [ true ↦ a | false ↦ b ]

ended_step : (t : ℕ) (w : List ℕ) → ((k : ℕ) → ones (lanes 8 (ended (carry_of k) w)) ≡ ends k w) → (q : Bool)
    → ones (lanes 8 (ended (on q) w) * 2 ^ 8 + bit_and (off q) (carry_of t)) ≡ chosen q (ends (suc t) w) (one t + ends 0 w)
unfolding ones
ended_step t w ih true = ones_cat 8 (lanes 8 (ended 128 w)) 0 (lit< tt) ∙ (let z : ones (lanes 8 (ended 128 w)) + 0 ≡ ones (lanes 8 (ended 128 w)) = omega arith in z) ∙ ih (suc t)
ended_step t w ih false =
    ones_cat 8 (lanes 8 (ended 0 w)) (bit_and 128 (carry_of t)) (lt_of_le_of_lt (and_le_l 128 (carry_of t)) (lit< tt))
    ∙ omega (arith, ih 0, one_end t)

ended_counted : (t : ℕ) (w : List ℕ) → ones (lanes 8 (ended (carry_of t) w)) ≡ ends t w
unfolding lanes ones
ended_counted t [] = refl
ended_counted t (b ∷ w) = ended_step t w (λ k. ended_counted k w) (is_hex b)

digits_in_lem : (w : List ℕ) → length w ≡ 8 → bit_xor (lanes 8 (map none_of w)) 0x8080808080808080 ≡ lanes 8 (map digit_lane w)
unfolding lanes
digits_in_lem w n = ap (λ (k : ℕ). bit_xor (lanes 8 (map none_of w)) (lanes 8 (replicate k 128))) (sym n) ∙ turned w
  where
    other : (p : Bool) → bit_xor (off p) 128 ≡ on p
    other true = refl
    other false = refl

    turned : (w : List ℕ) → bit_xor (lanes 8 (map none_of w)) (lanes 8 (replicate (length w) 128)) ≡ lanes 8 (map digit_lane w)
    turned [] = refl
    turned (b ∷ w) =
        xor_block 8 (lanes 8 (map none_of w)) (lanes 8 (replicate (length w) 128)) (none_of b) 128 (none_small b) (lit< tt)
        ∙ ap₂ (λ (m k : ℕ). m * 2 ^ 8 + k) (turned w) (other (is_hex b))

-- the lanes one higher, and the carry
raised : (w : List ℕ) (p : ℕ) → length w ≡ 8 → p < 256 → bit_or (lanes 8 (map digit_lane w) * 2 ^ 8 % 2 ^ 64) p ≡ lanes 8 (shift_in p w)
unfolding lanes
raised w p n h = ap (λ (m : ℕ). bit_or m p) up ∙ put w n
  where
    long : length (shift_in 0 w) ≡ 8
    long = shifted_length 0 w ∙ n

    parts : lanes 8 (map digit_lane w) * 2 ^ 8 ≡ lastly 0 w * 2 ^ 64 + lanes 8 (shift_in 0 w)
    parts =
        let e = lanes_append 8 (shift_in 0 w) (lastly 0 w ∷ []) in
        let f : lanes 8 (shift_in 0 w ++ (lastly 0 w ∷ [])) ≡ lanes 8 (0 ∷ map digit_lane w) = ap (lanes 8) (shifted_all 0 w) in
        let g : lanes 8 (lastly 0 w ∷ []) * 2 ^ (8 * length (shift_in 0 w)) ≡ lanes 8 (lastly 0 w ∷ []) * 2 ^ 64 = ap (λ (k : ℕ). lanes 8 (lastly 0 w ∷ []) * 2 ^ (8 * k)) long in
        omega (arith, e, f, g)

    small : lanes 8 (shift_in 0 w) < 2 ^ 64
    small = subst (λ (k : ℕ). lanes 8 (shift_in 0 w) < 2 ^ (8 * k)) long (lanes_lt 8 (shift_in 0 w) (shifted_under 0 w (lit< tt)))

    up : lanes 8 (map digit_lane w) * 2 ^ 8 % 2 ^ 64 ≡ lanes 8 (shift_in 0 w)
    up = ap (λ (m : ℕ). m % 2 ^ 64) parts ∙ mul-add-mod_self_right (lastly 0 w) (2 ^ 64) (lanes 8 (shift_in 0 w)) ∙ mod-eq_of_lt small

    put : (v : List ℕ) → length v ≡ 8 → bit_or (lanes 8 (shift_in 0 v)) p ≡ lanes 8 (shift_in p v)
    put [] m = absurd (omega (arith, m))
    put (b ∷ v) m =
        let r : ℕ = lanes 8 (shift_in (digit_lane b) v) in
        let z : p ≡ 0 * 2 ^ 8 + p = omega arith in
        ap (bit_or (r * 2 ^ 8 + 0)) z ∙ or_block 8 r 0 0 p (lit< tt) h ∙ ap (λ (k : ℕ). k * 2 ^ 8 + p) (or_zero_r r)

pub words_are : (w : List ℕ) (t : ℕ) → length w ≡ 8 → words_of (lanes 8 (map none_of w)) t ≡ ends t w
words_are w t n =
    ap (λ (d : ℕ). ones (bit_and (lanes 8 (map none_of w)) (bit_or (d * 2 ^ 8 % 2 ^ 64) (carry_of t)))) (digits_in_lem w n)
    ∙ ap (λ (d : ℕ). ones (bit_and (lanes 8 (map none_of w)) d)) (raised w (carry_of t) n (carry_small t))
    ∙ ap ones (ended_in (carry_of t) w (carry_small t)) ∙ ended_counted t w

-- ---- digits at the end
leading_shift : (k a r : ℕ) → 0 < a → a < 2 ^ k → r < 2 ^ 8 → count_leading_zeros (8 + k) (a * 2 ^ 8 + r) ≡ count_leading_zeros k a
leading_shift k a r o h l =
    let t = leading_top k a o h in
    let j : ℕ = t.0 in
    let m : ℕ = suc j + 8 in
    let p : 2 ^ m ≡ 2 ^ suc j * 2 ^ 8 = pow-add 2 (suc j) 8 in
    let q : 2 ^ suc j ≡ 2 ^ j * 2 = pow-suc 2 j in
    sym (leading_unique (8 + k) (a * 2 ^ 8 + r) (count_leading_zeros k a) m (omega (arith, t.1)) (omega (arith, p, t.3, l)) (omega (arith, p, q, t.2)))

all_step : (w : List ℕ) (t : ℕ) → (lanes 8 (map none_of w) ≡ 0 → tail (suc t) w ≡ suc t + length w) → (q : Bool)
    → lanes 8 (map none_of w) * 2 ^ 8 + off q ≡ 0 → chosen q (tail (suc t) w) (tail 0 w) ≡ t + suc (length w)
all_step w t ih true z = ih (omega (arith, z)) ∙ omega arith
all_step w t ih false z = absurd (omega (arith, z))

all_digits : (w : List ℕ) (t : ℕ) → lanes 8 (map none_of w) ≡ 0 → tail t w ≡ t + length w
unfolding lanes
all_digits [] t e = omega arith
all_digits (b ∷ w) t e = all_step w t (all_digits w (suc t)) (is_hex b) e

off_small : (q : Bool) → off q < 2 ^ 8
off_small true = lit< tt
off_small false = lit< tt

abbrev pub nones : List ℕ → ℕ
nones w = lanes 8 (map none_of w)

module _ (w : List ℕ) (t : ℕ) where
  size : 8 * suc (length w) ≡ 8 + 8 * length w
  size = omega arith

  less : nones w < 2 ^ (8 * length w)
  less = subst (λ (k : ℕ). nones w < 2 ^ (8 * k)) (length-map w none_of) (lanes_lt 8 (map none_of w) (under_map none_of none_small w))

  -- a blank stands further on
  higher : 0 < nones w → ((k : ℕ) → count_leading_zeros (8 * length w) (nones w) ≡ 8 * tail k w) → (q : Bool)
      → count_leading_zeros (8 * suc (length w)) (nones w * 2 ^ 8 + off q) ≡ 8 * chosen q (tail (suc t) w) (tail 0 w)
  higher l ih q =
      ap (λ (k : ℕ). count_leading_zeros k (nones w * 2 ^ 8 + off q)) size ∙ leading_shift (8 * length w) (nones w) (off q) l less (off_small q) ∙ behind q
    where
      behind : (q : Bool) → count_leading_zeros (8 * length w) (nones w) ≡ 8 * chosen q (tail (suc t) w) (tail 0 w)
      behind true = ih (suc t)
      behind false = ih 0

  -- this is the last one
  lowest : nones w ≡ 0 → (q : Bool) → 0 < nones w * 2 ^ 8 + off q → count_leading_zeros (8 * suc (length w)) (nones w * 2 ^ 8 + off q) ≡ 8 * chosen q (tail (suc t) w) (tail 0 w)
  lowest z true o = absurd (omega (arith, z, o))
  lowest z false o =
      let e : nones w * 2 ^ 8 + 128 ≡ 128 = omega (arith, z) in
      ap (count_leading_zeros (8 * suc (length w))) e
      ∙ sym (leading_unique (8 * suc (length w)) 128 (8 * length w) 8 (omega arith) (lit< tt) (lit≤ tt))
      ∙ omega (arith, all_digits w 0 z)

pub tail_is : (w : List ℕ) (t : ℕ) → 0 < nones w → count_leading_zeros (8 * length w) (nones w) ≡ 8 * tail t w
unfolding lanes
tail_is [] t h = absurd (omega (arith, h))
tail_is (b ∷ w) t h =
    split (ltb 0 (nones w))
    (λ p. let l = ltb-true 0 (nones w) p in higher w t l (λ k. tail_is w k l) (is_hex b))
    (λ p. let z : nones w ≡ 0 = omega (arith, ltb-false 0 (nones w) p) in lowest w t z (is_hex b) h)
