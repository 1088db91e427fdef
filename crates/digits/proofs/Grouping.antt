-- Digits among eight bytes, looked at at once: where no digit stands, what the others are worth, and the number that they write. Assumes nothing.
use Prim.Native.Nat.{ℕ, zero, suc, ◌+◌, ◌*◌, ◌/◌, ◌^◌, ◌≤◌, ◌<◌}
use native.Mathlib.Nat.{lt_of_le_of_lt, mul-le-mul, le_trans, div-mul-le_self}
use native.Mathlib.Omega.{arith}
use mathlib.Core.Path.{◌≡◌, refl, sym, ap, ap₂, ◌∙◌}
use mathlib.Core.List.{List, [], ◌∷◌, map}
use mathlib.Core.Bool.{Bool, true, false, ◌&&◌, ◌||◌, not}
use borrow.Author.Tests.{eqb-true, eqb-false, lt-ltb}
use lib.Dec.{eqb, ltb, lit<, lit≤}
use lib.ListN.{length, replicate}
use lib.Bits.{bit_and, bit_or, bit_xor, and_block, or_block, xor_block, and_le_r, or_lt, xor_lt}
use lib.Pow.{shl-shr}
use Rattle.facts.proofs.Branch.{split, differ}
use Rattle.facts.proofs.Decides.{and_split}
use Rattle.digits.specs.declared.group.Base.{Base}
use Rattle.digits.specs.Digits.{digit_of}
use Rattle.digits.specs.Lanes.{lanes, Under, figures_of, letters_of, shown_of, marks_of, values_of, paired_of, folded_of, base_of, unlike_of}
use Rattle.digits.proofs.Laning.{Small, Apart, sum_apart, lanewise, lanes_times, under_more, pair_up, paired_lanes, paired_under, paired_half, written, paired_written, written_alone}

-- ---- a question asked of every byte
abbrev pub each : ℕ → (ℕ → Bool) → Bool
each zero p = true
each (suc n) p = p n && each n p

pub each_is : (n : ℕ) (p : ℕ → Bool) → each n p ≡ true → (b : ℕ) → b < n → p b ≡ true
each_is zero p e b h = absurd (omega arith)
each_is (suc n) p e b h =
    split (eqb b n) (λ q. ap p (eqb-true b n q) ∙ (and_split (p n) (each n p) e).0)
    (λ q. each_is n p (and_split (p n) (each n p) e).1 b (omega (arith, eqb-false b n q)))

-- ---- one lane of what the code computes
abbrev figure : ℕ → ℕ
figure low = bit_xor (low + 80) (low + 70)

abbrev letter : ℕ → ℕ
letter low = bit_xor (bit_or low 32 + 31) (bit_or low 32 + 25)

abbrev shows : Base → ℕ → ℕ
shows base low = elim base [ Base.Sixteen ↦ bit_or (figure low) (letter low) | Base.Ten ↦ figure low ]

abbrev mark : Base → ℕ → ℕ
mark base b = bit_or (bit_xor (bit_and (shows base (bit_and b 127)) 128) 128) (bit_and b 128)

abbrev pub value : Base → ℕ → ℕ
value base b = elim base [ Base.Sixteen ↦ bit_and b 15 + bit_and b 64 / 64 * 9 | Base.Ten ↦ bit_and b 15 ]

-- 128 where no digit stands
abbrev pub mark_of : Base → ℕ → ℕ
mark_of base b = elim (ltb (digit_of b) (base_of base)) [ true ↦ 0 | false ↦ 128 ]

marks_all : (base : Base) → each 256 (λ b. eqb (mark base b) (mark_of base b)) ≡ true
unfolding digit_of
marks_all Base.Sixteen = refl
marks_all Base.Ten = refl

values_all : (base : Base) → each 256 (λ b. not (ltb (digit_of b) (base_of base)) || eqb (value base b) (digit_of b)) ≡ true
unfolding digit_of
values_all Base.Sixteen = refl
values_all Base.Ten = refl

tens_all : each 256 (λ b. eqb (bit_and b 64) (bit_and b 64 / 64 * 64)) ≡ true
tens_all = refl

mark_is : (base : Base) (b : ℕ) → b < 256 → mark base b ≡ mark_of base b
mark_is base b h = eqb-true _ _ (each_is 256 (λ c. eqb (mark base c) (mark_of base c)) (marks_all base) b h)

or_second : (a b : Bool) → a ≡ true → (not a || b) ≡ true → b ≡ true
or_second true b p q = q
or_second false b p q = differ false p refl

pub value_is : (base : Base) (b : ℕ) → b < 256 → digit_of b < base_of base → value base b ≡ digit_of b
value_is base b h l =
    eqb-true _ _ (or_second (ltb (digit_of b) (base_of base)) _ (lt-ltb _ _ l) (each_is 256 (λ c. not (ltb (digit_of c) (base_of base)) || eqb (value base c) (digit_of c)) (values_all base) b h))

-- ---- lane by lane
pub map_same : (f g : ℕ → ℕ) → ((b : ℕ) → b < 256 → f b ≡ g b) → (w : List ℕ) → Under 256 w → map f w ≡ map g w
map_same f g e [] u = refl
map_same f g e (b ∷ w) u = ap₂ (λ c l. c ∷ l) (e b u.0) (map_same f g e w u.1)

map_alone : (w : List ℕ) → w ≡ map (λ b. b) w
map_alone [] = refl
map_alone (b ∷ w) = ap (λ l. b ∷ l) (map_alone w)

map_const : (c : ℕ) (w : List ℕ) → replicate (length w) c ≡ map (λ _. c) w
map_const c [] = refl
map_const c (b ∷ w) = ap (λ l. c ∷ l) (map_const c w)

abbrev low : ℕ → ℕ
low b = bit_and b 127

small_low : (b : ℕ) → low b < 128
small_low b = lt_of_le_of_lt (and_le_r b 127) (lit< tt)

small_raised : (b : ℕ) → bit_or (low b) 32 < 128
small_raised b = or_lt 7 (low b) 32 (small_low b) (lit< tt)

small_figure : Small (λ b. figure (low b))
small_figure b h = xor_lt 8 (low b + 80) (low b + 70) (omega (arith, small_low b)) (omega (arith, small_low b))

small_letter : Small (λ b. letter (low b))
small_letter b h = xor_lt 8 (bit_or (low b) 32 + 31) (bit_or (low b) 32 + 25) (omega (arith, small_raised b)) (omega (arith, small_raised b))

small_shows : (base : Base) → Small (λ b. shows base (low b))
small_shows Base.Sixteen b h = or_lt 8 (figure (low b)) (letter (low b)) (small_figure b h) (small_letter b h)
small_shows Base.Ten b h = small_figure b h

pub small_and : (g : ℕ → ℕ) (c : ℕ) → c < 256 → Small (λ b. bit_and (g b) c)
small_and g c l b h = lt_of_le_of_lt (and_le_r (g b) c) l

-- at most 9
pub small_tens : Small (λ b. bit_and b 64 / 64 * 9)
small_tens b h = omega (arith, and_le_r b 64, div-mul-le_self (bit_and b 64) 64)

-- ---- lanes that are unlike a byte
abbrev pub unlike : ℕ → ℕ → ℕ
unlike b c = bit_or (bit_and (bit_xor b c) 127 + 127) (bit_xor b c)

small_xor : (g : ℕ → ℕ) (c : ℕ) → Small g → c < 256 → Small (λ b. bit_xor (g b) c)
small_xor g c s l b h = xor_lt 8 (g b) c (s b h) l

small_sum : (g : ℕ → ℕ) → Small (λ b. bit_and (g b) 127 + 127)
small_sum g b h = omega (arith, and_le_r (g b) 127)

pub small_unlike : (g : ℕ → ℕ) (c : ℕ) → Small g → c < 256 → Small (λ b. unlike (g b) c)
small_unlike g c s l b h = or_lt 8 (bit_and (bit_xor (g b) c) 127 + 127) (bit_xor (g b) c) (small_sum (λ d. bit_xor (g d) c) b h) (xor_lt 8 (g b) c (s b h) l)

module _ (w : List ℕ) (n : length w ≡ 8) (u : Under 256 w) where
  abbrev pub In : (ℕ → ℕ) → ℕ → Type 0
  In g x = x ≡ lanes 8 (map g w)

  pub both : (op : ℕ → ℕ → ℕ) → Apart op → op 0 0 ≡ 0 → (g h : ℕ → ℕ) → Small g → Small h → {x y : ℕ} → In g x → In h y → In (λ b. op (g b) (h b)) (op x y)
  both op a z g h sg sh p q = ap₂ op p q ∙ lanewise op a z g h sg sh w u

  pub same : (c x : ℕ) → x ≡ lanes 8 (replicate 8 c) → In (λ _. c) x
  same c x e = e ∙ ap (λ (m : ℕ). lanes 8 (replicate m c)) (sym n) ∙ ap (lanes 8) (map_const c w)

  pub whole : In (λ b. b) (lanes 8 w)
  whole = ap (lanes 8) (map_alone w)

  pub masked : (c x : ℕ) → c < 256 → x ≡ lanes 8 (replicate 8 c) → In (λ b. bit_and b c) (bit_and (lanes 8 w) x)
  masked c x l e = both bit_and and_block refl (λ b. b) (λ _. c) (λ b h. h) (λ b h. l) whole (same c x e)

  lows : In low (bit_and (lanes 8 w) 0x7f7f7f7f7f7f7f7f)
  unfolding lanes
  lows = masked 127 0x7f7f7f7f7f7f7f7f (lit< tt) refl

  pub added : (g : ℕ → ℕ) (c x : ℕ) {y : ℕ} → Small g → c < 256 → x ≡ lanes 8 (replicate 8 c) → In g y → In (λ b. g b + c) (y + x)
  added g c x s l e p = both (λ a b. a + b) sum_apart refl g (λ _. c) s (λ b h. l) p (same c x e)

  pub unlike_in : (g : ℕ → ℕ) (c k : ℕ) {x : ℕ} → Small g → c < 256 → k ≡ lanes 8 (replicate 8 c) → x ≡ lanes 8 (map g w) → unlike_of x k ≡ lanes 8 (map (λ b. unlike (g b) c) w)
  unfolding lanes
  unlike_in g c k s l e p =
      let y = both bit_xor xor_block refl g (λ _. c) s (λ b h. l) p (same c k e) in
      let sy = small_xor g c s l in
      let low = both bit_and and_block refl (λ b. bit_xor (g b) c) (λ _. 127) sy (λ b h. lit< tt) y (same 127 0x7f7f7f7f7f7f7f7f refl) in
      let sum = added (λ b. bit_and (bit_xor (g b) c) 127) 127 0x7f7f7f7f7f7f7f7f (small_and (λ b. bit_xor (g b) c) 127 (lit< tt)) (lit< tt) refl low in
      both bit_or or_block refl (λ b. bit_and (bit_xor (g b) c) 127 + 127) (λ b. bit_xor (g b) c) (small_sum (λ b. bit_xor (g b) c)) sy sum y

  figures_in : {x : ℕ} → In low x → In (λ b. figure (low b)) (figures_of x)
  unfolding lanes
  figures_in p =
      let s : Small low = λ b h. omega (arith, small_low b) in
      both bit_xor xor_block refl (λ b. low b + 80) (λ b. low b + 70) (λ b h. omega (arith, small_low b)) (λ b h. omega (arith, small_low b))
      (added low 80 0x5050505050505050 s (lit< tt) refl p) (added low 70 0x4646464646464646 s (lit< tt) refl p)

  letters_in : {x : ℕ} → In low x → In (λ b. letter (low b)) (letters_of x)
  unfolding lanes
  letters_in p =
      let s : Small low = λ b h. omega (arith, small_low b) in
      let t : Small (λ b. bit_or (low b) 32) = λ b h. omega (arith, small_raised b) in
      let r = both bit_or or_block refl low (λ _. 32) s (λ b h. lit< tt) p (same 32 0x2020202020202020 refl) in
      both bit_xor xor_block refl (λ b. bit_or (low b) 32 + 31) (λ b. bit_or (low b) 32 + 25) (λ b h. omega (arith, small_raised b)) (λ b h. omega (arith, small_raised b))
      (added (λ b. bit_or (low b) 32) 31 0x1f1f1f1f1f1f1f1f t (lit< tt) refl r) (added (λ b. bit_or (low b) 32) 25 0x1919191919191919 t (lit< tt) refl r)

  shown_in : (base : Base) {x : ℕ} → In low x → In (λ b. shows base (low b)) (shown_of base x)
  shown_in Base.Sixteen p = both bit_or or_block refl (λ b. figure (low b)) (λ b. letter (low b)) small_figure small_letter (figures_in p) (letters_in p)
  shown_in Base.Ten p = figures_in p

  pub marks_in : (base : Base) → marks_of base (lanes 8 w) ≡ lanes 8 (map (mark_of base) w)
  unfolding lanes
  marks_in base =
      let top = same 128 0x8080808080808080 refl in
      let is = both bit_and and_block refl (λ b. shows base (low b)) (λ _. 128) (small_shows base) (λ b h. lit< tt) (shown_in base lows) top in
      let sa = small_and (λ b. shows base (low b)) 128 (lit< tt) in
      let no = both bit_xor xor_block refl (λ b. bit_and (shows base (low b)) 128) (λ _. 128) sa (λ b h. lit< tt) is top in
      let sx : Small (λ b. bit_xor (bit_and (shows base (low b)) 128) 128) = λ b h. xor_lt 8 _ 128 (sa b h) (lit< tt) in
      both bit_or or_block refl (λ b. bit_xor (bit_and (shows base (low b)) 128) 128) (λ b. bit_and b 128) sx (small_and (λ b. b) 128 (lit< tt)) no (masked 128 0x8080808080808080 (lit< tt) refl)
      ∙ ap (lanes 8) (map_same (mark base) (mark_of base) (mark_is base) w u)

  tens : bit_and (lanes 8 w) 0x4040404040404040 / 64 * 9 ≡ lanes 8 (map (λ b. bit_and b 64 / 64 * 9) w)
  unfolding lanes
  tens =
      let t : ℕ → ℕ = λ b. bit_and b 64 / 64 in
      let e : bit_and (lanes 8 w) 0x4040404040404040 ≡ lanes 8 (map t w) * 2 ^ 6 =
      masked 64 0x4040404040404040 (lit< tt) refl
      ∙ ap (lanes 8) (map_same (λ b. bit_and b 64) (λ b. t b * 64) (λ b h. eqb-true _ _ (each_is 256 (λ c. eqb (bit_and c 64) (bit_and c 64 / 64 * 64)) tens_all b h)) w u)
      ∙ lanes_times 8 t 64 w in
      ap (λ (x : ℕ). x / 2 ^ 6 * 9) e ∙ ap (λ (x : ℕ). x * 9) (shl-shr (lanes 8 (map t w)) 6) ∙ sym (lanes_times 8 t 9 w)

  pub values_in : (base : Base) → values_of base (lanes 8 w) ≡ lanes 8 (map (value base) w)
  unfolding lanes
  values_in Base.Sixteen =
      both (λ a b. a + b) sum_apart refl (λ b. bit_and b 15) (λ b. bit_and b 64 / 64 * 9) (small_and (λ b. b) 15 (lit< tt)) small_tens (masked 15 0x0f0f0f0f0f0f0f0f (lit< tt) refl) tens
  values_in Base.Ten = masked 15 0x0f0f0f0f0f0f0f0f (lit< tt) refl

-- ---- eight digits as one number
module _ (b : ℕ) (few : b ≤ 16) (w : List ℕ) (n : length w ≡ 8) (u : Under b w) where
  square : b * b ≤ 256
  square = mul-le-mul few few

  fourth : b * b * (b * b) ≤ 65536
  fourth = mul-le-mul square square

  pub folded_in : folded_of b (lanes 8 w) ≡ written b 0 w
  folded_in =
      let p = pair_up b w in
      let f = pair_up (b * b) p in
      let o = pair_up (b * b * (b * b)) f in
      let up = paired_under b w u in
      let uf = paired_under (b * b) p up in
      let np : length p ≡ 4 = paired_half b 4 w n in
      let nf : length f ≡ 2 = paired_half (b * b) 2 p np in
      let no : length o ≡ 1 = paired_half (b * b * (b * b)) 1 f nf in
      let e₁ = paired_lanes 8 b 4 w n (under_more b 256 (le_trans few (lit≤ tt)) w u) in
      let e₂ = paired_lanes 16 (b * b) 2 p np (under_more (b * b) 65536 (le_trans square (lit≤ tt)) p up) in
      let e₃ = paired_lanes 32 (b * b * (b * b)) 1 f nf (under_more (b * b * (b * b)) 4294967296 (le_trans fourth (lit≤ tt)) f uf) in
      ap (λ (y : ℕ). paired_of 4294967296 0xffffffff (b * b * (b * b)) (paired_of 65536 0x0000ffff0000ffff (b * b) y)) e₁
      ∙ ap (λ (y : ℕ). paired_of 4294967296 0xffffffff (b * b * (b * b)) y) e₂ ∙ e₃
      ∙ written_alone 64 (b * b * (b * b) * (b * b * (b * b))) o no
      ∙ paired_written (b * b * (b * b)) 1 0 f nf ∙ paired_written (b * b) 2 0 p np ∙ paired_written b 4 0 w n
