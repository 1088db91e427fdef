-- The coordinate at the start of some bytes: what the code that reads it needs of the definitions. Assumes nothing.
use Rattle.std.specs.Prelude.{Option, Some, None}
use Prim.Native.Nat.{ℕ, ◌+◌, ◌-◌, ◌≤◌, ◌<◌}
use native.Mathlib.Nat.{pow-zero, mul-one}
use native.Mathlib.Numerals.{add-one}
use native.Mathlib.Omega.{arith}
use mathlib.Core.Path.{◌≡◌, sym, ap, ◌∙◌}
use mathlib.Core.List.{List, [], ◌∷◌}
use mathlib.Core.Bool.{Bool, true, false}
use borrow.Author.Tests.{le-leb, lt-leb}
use lib.Dec.{lit<}
use lib.IntN.{ℤ, pos}
use lib.ListN.{length, drop, get_or, length-drop, drop_of_length-le}
use lib.Seq.{drop-cons}
use Rattle.facts.proofs.Branch.{split, either}
use Rattle.facts.specs.declared.Taken.{Taken}
use Rattle.coordinates.specs.declared.sign.Sign.{Sign}
use Rattle.coordinates.specs.declared.scan.Scan.{Scan}
use Rattle.decimals.specs.declared.decimal.Decimal.{Decimal}
use Rattle.facts.specs.declared.Taken.{Taken}
use Rattle.digits.specs.Digits.{within, digits_in}
use Rattle.decimals.specs.Coordinate.{sign_of, Signed, sign_in, fraction_in, is_mark, reading_by, front_of, back_of, kept, keep_by}
use Rattle.decimals.specs.Lead.{Leading, leading, tens_by, marked_in, power_in, tens_of, lead_of}
use Rattle.coordinates.specs.Parts.{SignAt, PowerAt, Stands, Shows, Scanned, Mild}
use Rattle.digits.proofs.Digits.{within_is}
use Rattle.decimals.proofs.Tens.{at_least}
use Rattle.decimals.proofs.Readings.{no_digits, some_digits, few_small, tens_few, tens_many, tens_is, mild_sign}
use Rattle.coordinates.proofs.Words.{start, digits_shown, back_shows, counts}

-- ---- up to three digits
-- a state that stands for a small number has it in m
small : (x : Scan) (v : ℕ) → Stands x v → v < 1000 → v ≡ x.m
small x v s h =
    split x.over (λ o. let d = s.wide o in absurd (omega (arith, d.whole, d.many, at_least d.core d.zeros)))
    (λ o. let e = s.exact o in
    let t = s.room (omega (arith, e, at_least x.m x.tail)) in
    e ∙ rw (t, pow-zero, mul-one x.m))

tens_mild : (n : Bool) (w : List ℕ) → Mild (tens_by n (digits_in 10 0 0 w))
tens_mild n w =
    either Mild (within 1 3 (digits_in 10 0 0 w).count) (λ p. mild_sign n _ (few_small w 3 (within_is 1 3 (digits_in 10 0 0 w).count p).1)) (λ _. tt)

-- ---- behind the `e`
abbrev power_lead : Option ℤ → ℕ → Taken (Option ℤ)
power_lead p n = record { value = p; next = n }

module _ (w : List ℕ) (at : ℕ) (s : Sign) (g : SignAt w at s) (d : Scan) (a : Scanned w (start s.next) d (λ v. digits_in 10 v 0 (drop s.next w))) where
  shown : Shows w d (front_of (drop at w))
  shown = digits_shown w at s g d a

  marked_is : (p : Option ℤ) → p ≡ tens_by (sign_in (drop at w)).negative (front_of (drop at w)) → PowerAt w (power_lead p d.next) (marked_in (drop at w))
  unfolding marked_in
  marked_is p e = record { says = ap (leading p) shown.rest ∙ ap (λ p. leading p (front_of (drop at w)).rest) e; within = a.fair.within }

  pub marked_few : d.count < 1 → PowerAt w (power_lead None d.next) (marked_in (drop at w))
  marked_few h = marked_is None (sym (tens_few (sign_in (drop at w)).negative (front_of (drop at w)) (omega (arith, shown.count))))

  pub marked_many : 3 < d.count → PowerAt w (power_lead None d.next) (marked_in (drop at w))
  marked_many h = marked_is None (sym (tens_many (sign_in (drop at w)).negative (front_of (drop at w)) (omega (arith, shown.count))))

  value_less : d.count ≤ 3 → (front_of (drop at w)).value < 1000
  value_less h = few_small (sign_in (drop at w)).rest 3 (omega (arith, shown.count))

  value_is : d.count ≤ 3 → (front_of (drop at w)).value ≡ d.m
  value_is h = small d _ shown.value (value_less h)

  pub marked_less : d.count ≤ 3 → d.m < 1000
  marked_less h = omega (arith, value_less h, value_is h)

  pub marked_found : 1 ≤ d.count → d.count ≤ 3 → (k : ℤ) → k ≡ sign_of s.negative d.m
      → PowerAt w (power_lead (Some k) d.next) (marked_in (drop at w))
  marked_found l h k e =
      let n = ap (λ (x : Signed). x.negative) g.says in
      let t = tens_is (sign_in (drop at w)).negative (front_of (drop at w)) (omega (arith, shown.count)) (omega (arith, shown.count)) in
      marked_is (Some k) (ap Some (e ∙ rw (n, value_is h)) ∙ sym t)

-- ---- at a place
module _ (w : List ℕ) (at : ℕ) where
  pub past_lead : length w ≤ at → at ≤ length w → PowerAt w (power_lead (Some (pos 0)) at) (power_in (drop at w))
  unfolding power_in
  past_lead h l = record { says = rw (drop_of_length-le w h); within = l }

  module _ (h : at < length w) where
    pub marked_lead : is_mark (get_or w at 0) ≡ true → (r : Taken (Option ℤ)) → PowerAt w r (marked_in (drop (at + 1) w)) → PowerAt w r (power_in (drop at w))
    unfolding power_in
    marked_lead t r p = record { says = p.says ∙ rw (drop-cons w at 0 h, add-one at, t, power_in); within = p.within }

    pub plain_lead : is_mark (get_or w at 0) ≡ false → PowerAt w (power_lead (Some (pos 0)) at) (power_in (drop at w))
    unfolding power_in
    plain_lead t = record { says = rw (drop-cons w at 0 h, t, power_in); within = omega arith }

mild_lead : (w : List ℕ) → Mild (power_in w).power
unfolding power_in marked_in
mild_lead [] = lit< tt
mild_lead (b ∷ w) = either (λ (x : Leading). Mild x.power) (is_mark b) (λ _. tens_mild (sign_in w).negative (sign_in w).rest) (λ _. lit< tt)

pub lead_mild : (w l : List ℕ) (p : Taken (Option ℤ)) → PowerAt w p (power_in l) → Mild p.value
lead_mild w l p t = rw (ap (λ (x : Leading). x.power) t.says) (mild_lead l)

-- ---- all of it
abbrev lead_at : Option Decimal → ℕ → Taken (Option Decimal)
lead_at d n = record { value = d; next = n }

pub long_lead : (w : List ℕ) → 64 < length w → lead_at None 0 ≡ lead_of w
unfolding lead_of
long_lead w h = rw (lt-leb (length w) 64 h, lead_of)

module _ (w : List ℕ) (l : length w ≤ 64) (s : Sign) (g : SignAt w 0 s)
    (front : Scan) (a : Scanned w (start s.next) front (λ v. digits_in 10 v 0 (drop s.next w)))
    (back : Scan) (b : Scanned w front back (λ v. fraction_in v (drop front.next w)))
    (p : Taken (Option ℤ)) (t : PowerAt w p (power_in (drop back.next w))) where
  tens : leading p.value (drop p.next w) ≡ tens_of w
  tens = t.says ∙ ap power_in (back_shows w l s g front a back b).rest

  next : p.next ≡ length w - length (tens_of w).rest
  next = omega (arith, t.within, length-drop p.next w, ap (λ (x : Leading). length x.rest) tens)

  lead_as : (r : Option Decimal) → r ≡ kept (reading_by (sign_in w).negative (front_of w).count (back_of w) (tens_of w).power) → lead_at r p.next ≡ lead_of w
  unfolding lead_of
  lead_as r e = rw (le-leb (length w) 64 l, lead_of) (ap (lead_at r) next ∙ ap (λ r. lead_at r (length w - length (tens_of w).rest)) e)

  some : (front_of w).count + (back_of w).count ≡ front.count + back.count
  some = sym (counts w l s g front a back b)

  pub lead_none : front.count + back.count ≡ 0 → lead_at None p.next ≡ lead_of w
  lead_none h = lead_as None (sym (ap kept (no_digits _ _ (back_of w) (tens_of w).power (some ∙ h))))

  pub lead_found : (front.count + back.count ≡ 0 → ⊥) → (r : Option Decimal)
      → ((v : ℕ) → Stands back v → r ≡ keep_by s.negative v back.count p.value) → lead_at r p.next ≡ lead_of w
  lead_found h r k =
      let n = ap (λ (x : Signed). x.negative) g.says in
      let q = ap (λ (x : Leading). x.power) tens in
      let f = back_shows w l s g front a back b in
      let c = f.count in
      lead_as r (
      k (back_of w).value f.value
      ∙ rw (n, c, q) (sym (some_digits (sign_in w).negative (front_of w).count (back_of w) (tens_of w).power (λ z. h (sym some ∙ z))))
      )

-- what `power_lead` finds
pub ruleset leading_powers = (past_lead, marked_lead, plain_lead)
