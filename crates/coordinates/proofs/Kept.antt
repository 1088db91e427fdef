-- The end of a coordinate: the digits' zeros cut off, the exponent in its range. Assumes nothing.
use Rattle.std.specs.Prelude.{Option, Some, None}
use Rattle.decimals.specs.Coordinate.{decimal}
use Prim.Native.Nat.{ℕ, ◌-◌, ◌*◌, ◌^◌, ◌≤◌, ◌<◌}
use native.Mathlib.Nat.{zero-mul, pow-zero, pow-le-pow_right}
use native.Mathlib.Omega.{arith}
use mathlib.Core.Path.{◌≡◌, sym, ap, ◌∙◌}
use mathlib.Core.List.{List, [], ◌∷◌}
use mathlib.Core.Bool.{Bool, true, false, ◌&&◌}
use borrow.Author.Tests.{le-ltb}
use lib.Dec.{lit<}
use lib.ListN.{length, take, drop}
use lib.IntN.{ℤ, pos, neg_ℤ, ◌+ℤ◌, ◌-ℤ◌}
use lib.Signed.{mag}
use mir.Syntax.{w32}
use mir.Val.{SFits}
use Rattle.facts.proofs.Branch.{either}
use Rattle.facts.proofs.Signed.{mag_neg, mag_sum, sum_fits}
use Rattle.coordinates.specs.declared.sign.Sign.{Sign}
use Rattle.coordinates.specs.declared.scan.Scan.{Scan}
use Rattle.decimals.specs.declared.decimal.Cut.{Cut}
use Rattle.digits.specs.Digits.{Digits, digits_in, within}
use Rattle.numbers.specs.Whole.{is_empty, whole_of}
use Rattle.decimals.specs.Coordinate.{sign_of, Signed, sign_in, is_mark, power_by, marked_of, power_of, in_range, fitted, keep}
use Rattle.coordinates.specs.Parts.{SignAt, Wide, Stands, CutOf, Below, Mild}
use Rattle.digits.proofs.Digits.{and_right, within_is, digits_in_below}
use Rattle.coordinates.proofs.Scanning.{rest_is}
use Rattle.decimals.proofs.Readings.{mild_sign}
use Rattle.decimals.proofs.Value.{keep_zero, keep_tens, fitted_in, fitted_out}

-- ---- what is kept of the digits
module _ (n : Bool) where
  fitted_wide : (c : Cut) (e : ℤ) → 10 ^ 18 ≤ c.m → fitted n c e ≡ None
  unfolding fitted
  fitted_wide c e h = rw (le-ltb _ (10 ^ 18) h, fitted)

  keep_wide : (d : ℕ) (e : ℤ) → Wide d → keep n d e ≡ None
  keep_wide d e w = keep_tens n d w.core w.zeros e w.whole w.ends ∙ fitted_wide _ e w.many

  keep_cut : (d : ℕ) (e : ℤ) (c : Cut) → CutOf d c → fitted n c e ≡ keep n d e
  keep_cut d e c k = sym (keep_tens n d c.m c.zeros e k.whole k.ends)

  module _ (x : Scan) (v : ℕ) (s : Stands x v) (b : ℤ) where
    pub keep_over : x.over ≡ true → None ≡ keep n v b
    keep_over o = sym (keep_wide v b (s.wide o))

    module _ (o : x.over ≡ false) where
      pub keep_nought : x.m ≡ 0 → decimal (pos 0) (pos 0) ≡ keep n v b
      keep_nought h = keep_zero n v b (s.exact o ∙ rw (h, zero-mul))

      module _ (c : Cut) (k : CutOf (x.m * 10 ^ x.tail) c) (e : ℤ) (f : e ≡ b +ℤ pos c.zeros) (t : Bool) (g : t ≡ in_range e) where
        here : CutOf v c
        here = rw (s.exact o) k

        pub keeps : (m : ℤ) → m ≡ sign_of n c.m → t ≡ true → decimal m e ≡ keep n v b
        keeps m p q = rw (p, f) (fitted_in n c b k.less (ap in_range (sym f) ∙ sym g ∙ q) ∙ keep_cut v b c here)

        pub refuses : t ≡ false → None ≡ keep n v b
        refuses q = fitted_out n c b k.less (ap in_range (sym f) ∙ sym g ∙ q) ∙ keep_cut v b c here

-- ---- a power of at most three digits
-- an exponent made of it fits
pub exponent_fits : (k : ℤ) (places zeros : ℕ) → mag k < 1000 → places ≤ 64 → zeros < 82 → SFits w32 (k -ℤ pos places +ℤ pos zeros)
exponent_fits k places zeros a b h = sum_fits w32 (k -ℤ pos places) (pos zeros) (omega (arith, mag_sum k (neg_ℤ (pos places)), mag_neg places))

-- a number of at most `most` digits is below base ^ most
pub whole_below : (base most : ℕ) (w : List ℕ) → 0 < base → Below (base ^ most) (whole_of base most w)
unfolding whole_of
whole_below base most w g =
    either (Below (base ^ most)) (is_empty d.rest && within 1 most d.count)
    (λ p. let m = (within_is 1 most d.count (and_right (is_empty d.rest) (within 1 most d.count) p)).1 in
    omega (arith, digits_in_below base w 0 0 (rw pow-zero (lit< tt)), pow-le-pow_right g {i = d.count} {j = most} m))
    (λ _. tt)
  where
    d : Digits
    d = digits_in base 0 0 w

mild_by : (n : Bool) (k : Option ℕ) → Below 1000 k → Mild (power_by n k)
mild_by n (Some k) b = mild_sign n k b
mild_by n None b = tt

-- ---- what stands behind the `e`
pub marked_is : (w : List ℕ) (at : ℕ) (s : Sign) (k : Option ℕ) → SignAt w at s → k ≡ whole_of 10 3 (take (length w - s.next) (drop s.next w))
    → power_by s.negative k ≡ marked_of (drop at w)
unfolding marked_of
marked_is w at s k g e =
    rw (e, rest_is w s.next, ap (λ (x : Signed). x.negative) g.says, ap (λ (x : Signed). x.rest) g.says)

pub mild : (w : List ℕ) → Mild (power_of w)
unfolding power_of marked_of
mild [] = lit< tt
mild (b ∷ w) = either Mild (is_mark b) (λ _. mild_by _ (whole_of 10 3 (sign_in w).rest) (whole_below 10 3 (sign_in w).rest (lit< tt))) (λ _. tt)
