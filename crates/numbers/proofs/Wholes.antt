-- A whole number, over the base: what is read is what is written there. Assumes nothing.
use Rattle.std.specs.Prelude.{Some, None}
use Prim.Native.Nat.{ℕ, ◌+◌, ◌≤◌}
use native.Mathlib.Omega.{arith}
use mathlib.Core.Path.{◌≡◌, refl, sym, ap, ◌∙◌}
use mathlib.Core.Logic.{◌↔◌}
use mathlib.Core.List.{List, [], ◌∷◌, ◌++◌, append-nil}
use mathlib.Core.Bool.{true, false, ◌&&◌}
use borrow.Author.Tests.{le-leb}
use lib.ListN.{length}
use Rattle.facts.proofs.Branch.{either, differ}
use Rattle.digits.specs.Digits.{Digits, digits, digits_in, within, Figures, worth}
use Rattle.numbers.specs.Whole.{is_empty, whole_by, whole_of}
use Rattle.digits.proofs.Digits.{and_left, and_right, within_is, Run, digits_in_exact, digits_in_part}

pub whole_by_is : (most v n : ℕ) → 1 ≤ n → n ≤ most → whole_by most (digits v n []) ≡ Some v
whole_by_is most v n p q = rw (le-leb 1 n p, le-leb n most q, whole_by)

module _ (base most : ℕ) (w : List ℕ) where
  pub whole_of_exact : Figures base w → 1 ≤ length w → length w ≤ most → whole_of base most w ≡ Some (worth base 0 w)
  unfolding whole_of
  whole_of_exact f low high =
      let d = rw append-nil at (digits_in_exact base w [] 0 0 f tt) in
      ap (whole_by most) d ∙ whole_by_is most (worth base 0 w) (0 + length w) (omega arith) (omega arith)

  pub record Wholly (v : ℕ) : Type 0 where
    pub figures : Figures base w
    pub low : 1 ≤ length w
    pub high : length w ≤ most
    pub value : v ≡ worth base 0 w

  wholly : (d : Digits) (v : ℕ) → Run base w 0 0 d → whole_by most d ≡ Some v → Wholly v
  wholly d v r = either (λ x. x ≡ Some v → Wholly v) (is_empty d.rest && within 1 most d.count) yes (λ _ e. absurd (not_is v e))
    where
      not_is : (v : ℕ) → None ≡ Some v → ⊥
      not_is v e = let z : ◌≡◌ {A = ℕ} 0 1 = cc in omega arith

      is_empty_lem : (l : List ℕ) → is_empty l ≡ true → l ≡ []
      is_empty_lem [] e = refl
      is_empty_lem (b ∷ l) e = differ false e refl

      yes : (is_empty d.rest && within 1 most d.count) ≡ true → Some d.value ≡ Some v → Wholly v
      yes p e =
          let q = r.parted ∙ ap (λ l. r.run ++ l) (is_empty_lem d.rest (and_left (is_empty d.rest) _ p)) ∙ append-nil r.run in
          let c = within_is 1 most d.count (and_right (is_empty d.rest) _ p) in
          let z : v ≡ d.value = cc in
          record {
            figures = rw q r.figures;
            low = omega (arith, r.count, ap length q);
            high = omega (arith, r.count, ap length q);
            value = z ∙ r.value ∙ ap (worth base 0) (sym q);
          }

  pub whole_of_exactly : (v : ℕ) → (whole_of base most w ≡ Some v) ↔ Wholly v
  unfolding whole_of
  whole_of_exactly v =
      (wholly (digits_in base 0 0 w) v (digits_in_part base w 0 0), λ h. whole_of_exact h.figures h.low h.high ∙ ap Some (sym h.value))
