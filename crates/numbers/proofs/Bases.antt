-- Whole numbers over the base: what the one loop needs. Assumes nothing.
use Rattle.std.specs.Prelude.{Option, Some, None}
use Prim.Native.Nat.{ℕ, ◌+◌, ◌*◌, ◌^◌, ◌≤◌, ◌<◌}
use native.Mathlib.Nat.{pow-suc, pow-le-pow_right}
use native.Mathlib.Numerals.{add-one}
use native.Mathlib.Omega.{arith}
use mathlib.Core.Path.{◌≡◌, refl, sym, ap, ◌∙◌}
use mathlib.Core.List.{List, ◌∷◌}
use lib.Arith.{digits_lt}
use lib.ListN.{length, drop, get_or, drop_of_length-le}
use lib.Seq.{drop-cons}
use Rattle.digits.specs.Digits.{digit_of, digits, digits_in}
use Rattle.numbers.specs.Whole.{whole_by, whole_of}
use Rattle.numbers.proofs.Places.{digits_in_stop, digits_in_past}
use Rattle.numbers.proofs.Wholes.{whole_by_is, whole_of_exactly}

not_whole : (r : Option ℕ) → ((v : ℕ) → r ≡ Some v → ⊥) → None ≡ r
not_whole (Some v) h = absurd (h v refl)
not_whole None h = refl

module _ (base most : ℕ) (w : List ℕ) where
  pub whole_short : length w < 1 → None ≡ whole_of base most w
  whole_short h = not_whole (whole_of base most w) (λ v e. omega (arith, ((whole_of_exactly base most w v).0 e).low))

  pub whole_long : most < length w → None ≡ whole_of base most w
  whole_long h = not_whole (whole_of base most w) (λ v e. omega (arith, ((whole_of_exactly base most w v).0 e).high))

  module _ (v i : ℕ) (s : digits_in base v i (drop i w) ≡ digits_in base 0 0 w) where
    pub whole_stop : (d : ℕ) → i < length w → d ≡ digit_of (get_or w i 0) → base ≤ d → None ≡ whole_of base most w
    unfolding whole_of
    whole_stop d h e t = rest_not (drop-cons w i 0 h) ∙ ap (whole_by most) (digits_in_stop w i base v i d h e t ∙ s)
      where
        rest_not : {l : List ℕ} {b : ℕ} {r : List ℕ} → l ≡ b ∷ r → None ≡ whole_by most (digits v i l)
        rest_not q = rw q

    pub whole_end : length w ≤ i → 1 ≤ i → i ≤ most → Some v ≡ whole_of base most w
    unfolding whole_of
    whole_end h l m =
        sym (whole_by_is most v i l m)
        ∙ ap (λ r. whole_by most (digits v i r)) (sym (drop_of_length-le w h))
        ∙ ap (whole_by most) (digits_in_past w i base v i h ∙ s)

-- nothing wraps
module _ (base most v d i : ℕ) (p : 0 < base) (m : base ^ most ≤ 2 ^ 32) (b : v < base ^ i) (t : d < base) where
  pub grows : v * base + d < base ^ (i + 1)
  grows = rw (add-one, pow-suc) (digits_lt b t)

  pub fits : i < most → v * base + d < 2 ^ 32
  fits h = omega (arith, grows, pow-le-pow_right p {i = i + 1} {j = most} (omega arith))
