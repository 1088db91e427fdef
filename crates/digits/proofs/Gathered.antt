-- What `group_of` answers of some bytes is what `digits_in` reads of them. Assumes nothing.
use Prim.Native.Nat.{ℕ, zero, suc, ◌+◌, ◌-◌, ◌*◌, ◌/◌, ◌%◌, ◌^◌, ◌≤◌, ◌<◌}
use native.Mathlib.Nat.{mul_assoc, add-mul, mod-eq_of_lt, mul-add-mod_self_right, le_trans}
use native.Mathlib.Omega.{arith}
use mathlib.Core.Path.{◌≡◌, refl, sym, ap, ap₂, subst, ◌∙◌}
use mathlib.Core.List.{List, [], ◌∷◌, ◌++◌, map}
use lib.Dec.{ltb, lit≤}
use lib.ListN.{length, replicate, length-append, length-replicate, length-map}
use lib.Count.{count_trailing_zeros, under}
use lib.Pow.{pow-add, shl_lt}
use Rattle.facts.proofs.Maps.{map_append}
use Rattle.facts.proofs.Branch.{either, split}
use Rattle.digits.specs.declared.group.Base.{Base}
use Rattle.digits.specs.declared.group.Group.{Group}
use Rattle.digits.specs.Digits.{digit_of, Digits, digits_in, Figures, worth}
use Rattle.digits.specs.Lanes.{lanes, Under, Laned, marks_of, values_of, folded_of, base_of, group_by, Grouped}
use Rattle.digits.proofs.Digits.{digits_in_part}
use Rattle.digits.proofs.Laning.{under_append, under_more, under_zeros, lanes_append, lanes_lt, lanes_zeros, padded, padded_eight, padded_under, padded_same, trailing_shift, written, written_zeros}
use Rattle.digits.proofs.Grouping.{mark_of, value, value_is, marks_in, values_in, folded_in}

-- ---- how many digits there are
abbrev pub zeros_of : Base → List ℕ → ℕ
zeros_of base w = count_trailing_zeros (8 * length w) (lanes 8 (map (mark_of base) w))

module _ (base : Base) where
  -- a digit's lane is 0
  pub passed : (w : List ℕ) (l : ℕ) → count_trailing_zeros (8 * suc (length w)) (l * 2 ^ 8 + 0) ≡ 8 + count_trailing_zeros (8 * length w) l
  passed w l =
      let e : 8 * suc (length w) ≡ 8 + 8 * length w = omega arith in
      let f : l * 2 ^ 8 + 0 ≡ l * 2 ^ 8 = omega arith in
      ap₂ count_trailing_zeros e f ∙ trailing_shift 8 (8 * length w) l

  -- another's lane ends in seven zeros
  pub stopped : (w : List ℕ) (l : ℕ) → count_trailing_zeros (8 * suc (length w)) (l * 2 ^ 8 + 128) ≡ 7
  unfolding count_trailing_zeros
  stopped w l =
      let e : 8 * suc (length w) ≡ 7 + suc (8 * length w) = omega arith in
      let f : l * 2 ^ 8 + 128 ≡ (l * 2 + 1) * 2 ^ 7 = omega arith in
      let o : (l * 2 + 1) % 2 ≡ 1 = omega arith in
      ap₂ count_trailing_zeros e f ∙ trailing_shift 7 (suc (8 * length w)) (l * 2 + 1) ∙ ap (λ (d : ℕ). 7 + under d (count_trailing_zeros (8 * length w) ((l * 2 + 1) / 2))) o

  pub counted : (w : List ℕ) (v n : ℕ) → zeros_of base w / 8 + n ≡ (digits_in (base_of base) v n w).count
  unfolding lanes digits_in count_trailing_zeros
  counted [] v n = omega arith
  counted (b ∷ w) v n =
      let l : ℕ = lanes 8 (map (mark_of base) w) in
      either (λ (m : ℕ). count_trailing_zeros (8 * suc (length w)) (l * 2 ^ 8 + m) / 8 + n ≡ (digits_in (base_of base) v n (b ∷ w)).count) (ltb (digit_of b) (base_of base))
      (λ p. rw (p, digits_in) (ap (λ (z : ℕ). z / 8 + n) (passed w l) ∙ omega (arith, counted w (v * base_of base + digit_of b) (suc n))))
      (λ p. rw (p, digits_in) (ap (λ (z : ℕ). z / 8 + n) (stopped w l) ∙ omega arith))

-- ---- what they write
pub under_left : (n : ℕ) (u v : List ℕ) → Under n (u ++ v) → Under n u
under_left n [] v b = tt
under_left n (x ∷ u) v b = (b.0, under_left n u v b.1)

module _ (base : Base) where
  pub values_are : (w : List ℕ) → Figures (base_of base) w → Under 256 w → map (value base) w ≡ map digit_of w
  values_are [] f u = refl
  values_are (b ∷ w) f u = ap₂ (λ c l. c ∷ l) (value_is base b u.0 f.0) (values_are w f.1 u.1)

  figures_under : (w : List ℕ) → Figures (base_of base) w → Under (base_of base) (map digit_of w)
  figures_under [] f = tt
  figures_under (b ∷ w) f = (f.0, figures_under w f.1)

  pub written_worth : (w : List ℕ) (v : ℕ) → written (base_of base) v (map digit_of w) ≡ worth (base_of base) v w
  written_worth [] v = refl
  written_worth (b ∷ w) v = written_worth w (v * base_of base + digit_of b)

base_few : (base : Base) → (base_of base ≤ 16) × (0 < base_of base)
base_few Base.Sixteen = (lit≤ tt, lit≤ tt)
base_few Base.Ten = (lit≤ tt, lit≤ tt)

-- the lanes behind the digits go out at the top
shifted : (r d c : ℕ) → c ≤ 8 → d < 2 ^ (8 * c) → (r * 2 ^ (8 * c) + d) * 2 ^ (64 - c * 8) % 2 ^ 64 ≡ d * 2 ^ (8 * (8 - c))
shifted r d c h l =
    let s : 64 - c * 8 ≡ 8 * (8 - c) = omega arith in
    let t : 8 * c + 8 * (8 - c) ≡ 64 = omega arith in
    let p : ℕ = 2 ^ (8 * c) in
    let q : ℕ = 2 ^ (8 * (8 - c)) in
    let pq : p * q ≡ 2 ^ 64 = sym (pow-add 2 (8 * c) (8 * (8 - c))) ∙ ap (λ (m : ℕ). 2 ^ m) t in
    let e : (r * p + d) * q ≡ r * 2 ^ 64 + d * q = add-mul (r * p) d q ∙ ap (λ (m : ℕ). m + d * q) (mul_assoc r p q ∙ ap (λ (m : ℕ). r * m) pq) in
    let small : d * q < 2 ^ 64 = subst (λ (m : ℕ). d * q < 2 ^ m) t (shl_lt (8 * c) (8 * (8 - c)) l) in
    ap (λ (m : ℕ). (r * p + d) * 2 ^ m % 2 ^ 64) s ∙ ap (λ (m : ℕ). m % 2 ^ 64) e ∙ mul-add-mod_self_right r (2 ^ 64) (d * q) ∙ mod-eq_of_lt small

-- eight bytes
module _ (base : Base) (w : List ℕ) (n : length w ≡ 8) (u : Under 256 w) where
  abbrev number : ℕ
  number = base_of base

  eight_counted : count_trailing_zeros 64 (marks_of base (lanes 8 w)) / 8 ≡ (digits_in number 0 0 w).count
  eight_counted =
      let e : 8 * length w ≡ 64 = omega (arith, n) in
      let f : count_trailing_zeros 64 (marks_of base (lanes 8 w)) ≡ zeros_of base w = ap₂ count_trailing_zeros (sym e) (marks_in w n u base) in
      omega (arith, ap (λ (z : ℕ). z / 8) f, counted base w 0 0)

  eight_written : folded_of number (values_of base (lanes 8 w) * 2 ^ (64 - (digits_in number 0 0 w).count * 8) % 2 ^ 64) ≡ (digits_in number 0 0 w).value
  eight_written =
      let d = digits_in number 0 0 w in
      let r = digits_in_part number w 0 0 in
      let run = r.run in
      let c : ℕ = length run in
      let count : d.count ≡ c = omega (arith, r.count) in
      let few : c ≤ 8 = omega (arith, n, ap length r.parted, length-append run d.rest) in
      let ur = under_left 256 run d.rest (subst (Under 256) r.parted u) in
      let ds = map digit_of run in
      let nd : length ds ≡ c = length-map run digit_of in
      let fu = figures_under base run r.figures in
      let vs : map (value base) w ≡ ds ++ map (value base) d.rest =
      ap (map (value base)) r.parted ∙ map_append (value base) run d.rest ∙ ap (λ l. l ++ map (value base) d.rest) (values_are base run r.figures ur) in
      let rest : ℕ = lanes 8 (map (value base) d.rest) in
      let two : values_of base (lanes 8 w) ≡ rest * 2 ^ (8 * c) + lanes 8 ds =
      values_in w n u base ∙ ap (lanes 8) vs ∙ lanes_append 8 ds (map (value base) d.rest) ∙ ap (λ (m : ℕ). rest * 2 ^ (8 * m) + lanes 8 ds) nd in
      let small : lanes 8 ds < 2 ^ (8 * c) = subst (λ (m : ℕ). lanes 8 ds < 2 ^ (8 * m)) nd (lanes_lt 8 ds (under_more number 256 (le_trans (base_few base).0 (lit≤ tt)) ds fu)) in
      let es = replicate (8 - c) 0 ++ ds in
      let placed : lanes 8 ds * 2 ^ (8 * (8 - c)) ≡ lanes 8 es =
      sym (lanes_append 8 (replicate (8 - c) 0) ds ∙ ap₂ (λ (m z : ℕ). lanes 8 ds * 2 ^ (8 * m) + z) (length-replicate {A = ℕ} (8 - c) 0) (lanes_zeros 8 (8 - c)) ∙ omega arith) in
      let ne : length es ≡ 8 = length-append (replicate (8 - c) 0) ds ∙ omega (arith, length-replicate {A = ℕ} (8 - c) 0, nd) in
      let ue = under_append number (replicate (8 - c) 0) ds (under_zeros number (8 - c) (base_few base).1) fu in
      ap₂ (λ (x m : ℕ). folded_of number (x * 2 ^ (64 - m * 8) % 2 ^ 64)) two count
      ∙ ap (folded_of number) (shifted rest (lanes 8 ds) c few small ∙ placed)
      ∙ folded_in number (base_few base).0 es ne ue
      ∙ written_zeros number (8 - c) ds ∙ written_worth base run 0 ∙ sym r.value

-- bytes of which fewer are there are followed by zeros, which are no digits
digits_padded : (base : Base) (w : List ℕ) (v n m : ℕ) → group_by (digits_in (base_of base) v n (w ++ replicate m 0)) ≡ group_by (digits_in (base_of base) v n w)
unfolding digits_in digit_of
digits_padded base [] v n zero = refl
digits_padded Base.Sixteen [] v n (suc m) = refl
digits_padded Base.Ten [] v n (suc m) = refl
digits_padded base (b ∷ w) v n m =
    split (ltb (digit_of b) (base_of base)) (λ p. rw (p, digits_in) (digits_padded base w (v * base_of base + digit_of b) (suc n) m)) (λ p. rw (p, digits_in) refl)

module _ (base : Base) (x : ℕ) (w : List ℕ) (l : Laned w x) (h : length w ≤ 8) where
  abbrev read : Digits
  read = digits_in (base_of base) 0 0 (padded w)

  padded_read : group_by read ≡ group_by (digits_in (base_of base) 0 0 w)
  unfolding padded
  padded_read = digits_padded base w 0 0 (8 - length w)

  pub gathered_count : count_trailing_zeros 64 (marks_of base x) / 8 ≡ (digits_in (base_of base) 0 0 w).count
  gathered_count =
      ap (λ (y : ℕ). count_trailing_zeros 64 (marks_of base y) / 8) (padded_same x w l) ∙ eight_counted base (padded w) (padded_eight w h) (padded_under x w l) ∙ ap (λ (g : Group). g.count) padded_read

  gathered_value : folded_of (base_of base) (values_of base x * 2 ^ (64 - (digits_in (base_of base) 0 0 w).count * 8) % 2 ^ 64) ≡ (digits_in (base_of base) 0 0 w).value
  gathered_value =
      ap₂ (λ (y c : ℕ). folded_of (base_of base) (values_of base y * 2 ^ (64 - c * 8) % 2 ^ 64)) (padded_same x w l) (ap (λ (g : Group). g.count) (sym padded_read))
      ∙ eight_written base (padded w) (padded_eight w h) (padded_under x w l) ∙ ap (λ (g : Group). g.value) padded_read

none_written : (number : ℕ) (w : List ℕ) → (digits_in number 0 0 w).count ≡ 0 → (digits_in number 0 0 w).value ≡ 0
none_written number w e = let r = digits_in_part number w 0 0 in r.value ∙ nothing r.run (omega (arith, e, r.count))
  where
    nothing : (l : List ℕ) → length l ≡ 0 → worth number 0 l ≡ 0
    nothing [] n = refl
    nothing (b ∷ l) n = absurd (omega (arith, n))

module _ (base : Base) (x m : ℕ) (e : m ≡ marks_of base x) where
  here : (w : List ℕ) → Laned w x → length w ≤ 8 → count_trailing_zeros 64 m / 8 ≡ (digits_in (base_of base) 0 0 w).count
  here w l h = ap (λ (y : ℕ). count_trailing_zeros 64 y / 8) e ∙ gathered_count base x w l h

  pub group_none : count_trailing_zeros 64 m / 8 ≡ 0 → Grouped base x (record { value = 0; count = count_trailing_zeros 64 m / 8 })
  group_none z =
      record {
        says = λ w l h. λ i. record { value = sym (none_written (base_of base) w (sym (here w l h) ∙ z)) i; count = here w l h i };
      }

  pub group_some : (v b f : ℕ) → v ≡ values_of base x → b ≡ base_of base → f ≡ folded_of b (v * 2 ^ (64 - count_trailing_zeros 64 m / 8 * 8) % 2 ^ 64)
      → Grouped base x (record { value = f; count = count_trailing_zeros 64 m / 8 })
  group_some v b f ev eb ef =
      record {
        says = λ w l h.
            let value : f ≡ (digits_in (base_of base) 0 0 w).value =
            ef ∙ (λ i. folded_of (eb i) (ev i * 2 ^ (64 - here w l h i * 8) % 2 ^ 64)) ∙ gathered_value base x w l h in
            λ i. record { value = value i; count = here w l h i };
      }

pub base_at_most : (base : Base) (b : ℕ) → b ≡ base_of base → b ≤ 16
base_at_most base b e = subst (λ (n : ℕ). n ≤ 16) (sym e) (base_few base).0
