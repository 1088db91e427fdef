-- One or two decimal digits, behind which the word ends: they are the section's id there. Assumes nothing.
use Rattle.std.specs.Prelude.{Some, None, is_some}
use Prim.Native.Nat.{ℕ, ◌+◌, ◌-◌, ◌*◌, ◌≤◌, ◌<◌}
use native.Mathlib.Omega.{arith}
use native.Mathlib.Numerals.{add-one}
use mathlib.Core.Path.{◌≡◌, refl, sym, ap, subst, ◌∙◌}
use mathlib.Core.List.{List, [], ◌∷◌}
use mathlib.Core.Bool.{true, false}
use borrow.Author.Tests.{le-leb, lt-leb, ltb-true, ltb-false}
use lib.Dec.{ltb}
use lib.ListN.{length, take, drop, get_or, get_or-eq_default}
use lib.Seq.{drop-cons}
use Rattle.facts.proofs.Branch.{split, differ}
use Rattle.tokens.specs.declared.Token.{Token}
use Rattle.tokens.specs.Tokens.{start_of, ends_word, step_of, token_at}
use Rattle.tokens.specs.Listed.{tokens_from}
use Rattle.tokens.proofs.Runner.{word_found}
use Rattle.tokens.proofs.Blanked.{start_here}
use Rattle.numbers.specs.declared.sort.Sort.{Sort}
use Rattle.digits.specs.Digits.{within, digit_of, Figures, worth}
use Rattle.numbers.specs.Whole.{section_id_of}
use Rattle.digits.proofs.Digits.{within_is}
use Rattle.numbers.proofs.Wholes.{whole_of_exact}
use Rattle.layout.specs.Reading.{number_by}
use Rattle.steps.specs.Views.{NumAt, num_read, whole_for}
use Rattle.ids.specs.Ids.{figure_at}
use Rattle.steps.proofs.Taken.{number_is}

-- ---- the digit at a place
module _ (s : List ℕ) (i : ℕ) where
  abbrev byte : ℕ
  byte = get_or s i 0

  pub figure_low : byte < 48 → None ≡ figure_at s i
  unfolding figure_at
  figure_low h = rw (lt-leb 48 byte h, figure_at)

  outside : length s ≤ i → byte < 48
  outside h = omega (arith, get_or-eq_default s 0 h)

  pub figure_out : length s ≤ i → None ≡ figure_at s i
  figure_out h = figure_low (outside h)

  module _ (l : 48 ≤ byte) where
    pub figure_high : 57 < byte → None ≡ figure_at s i
    unfolding figure_at
    figure_high h = rw (le-leb 48 byte l, lt-leb byte 57 h, figure_at)

    pub figure_is : byte ≤ 57 → Some (byte - 48) ≡ figure_at s i
    unfolding figure_at
    figure_is h = rw (le-leb 48 byte l, le-leb byte 57 h, figure_at)

  -- what is known of a digit
  pub record Figure (d : ℕ) : Type 0 where
    pub inside : i < length s
    pub high : 42 ≤ byte
    pub small : d < 10
    pub worth : digit_of byte ≡ d

  pub figured : (d : ℕ) → figure_at s i ≡ Some d → Figure d
  unfolding figure_at digit_of
  figured d f =
      split (within 48 57 byte)
      (λ p. let v : byte - 48 ≡ d = some_is (rw (p, figure_at) at f) in
      let low = within_is 48 57 byte p in
      record {
        inside = split (ltb i (length s)) (λ q. ltb-true i (length s) q) (λ q. absurd (omega (arith, low.0, outside (ltb-false i (length s) q))));
        high = omega (arith, low.0);
        small = omega (arith, v, low.1);
        worth = rw (p, digit_of) v;
      })
      (λ p. differ false (ap is_some (rw (p, figure_at) at f)) refl)
    where
      some_is : {a b : ℕ} → Some a ≡ Some b → a ≡ b
      some_is e = cc

-- ---- the word
module _ (s : List ℕ) (at : ℕ) where
  abbrev Id : ℕ → ℕ → Type 0
  Id v n = NumAt s at (num_read v at n) (number_by (length s) (whole_for Sort.SectionId) Sort.SectionId (tokens_from s at))

  -- bytes above `)`, the first of them here
  token : (n : ℕ) → 1 ≤ n → at + n ≤ length s → ((j : ℕ) → j < n → 42 ≤ get_or s (at + j) 0) → ends_word s (at + n) ≡ true → step_of Token.Word at (at + n) ≡ token_at s at
  token n some l g e =
      let z : at + 0 ≡ at = omega arith in
      let b : at ≡ start_of s at = start_here s at (omega (arith, l, some)) (subst (λ k. 42 ≤ get_or s k 0) z (g 0 some)) in
      ap (λ i. step_of Token.Word i (i + n)) b
      ∙ word_found s at n some (subst (λ i. i + n ≤ length s) b l) (subst (λ i. (j : ℕ) → j < n → 42 ≤ get_or s (i + j) 0) b g) (subst (λ i. ends_word s (i + n) ≡ true) b e)

  -- the bytes are these digits
  id_is : (n : ℕ) (w : List ℕ) → step_of Token.Word at (at + n) ≡ token_at s at → take n (drop at s) ≡ w → Figures 10 w → 1 ≤ length w → length w ≤ 5 → (v : ℕ) → worth 10 0 w ≡ v → Id v (at + n)
  id_is n w t b f low high v e =
      let z : at + n - at ≡ n = omega arith in
      let here : take (at + n - at) (drop at s) ≡ w = ap (λ k. take k (drop at s)) z ∙ b in
      number_is s at (step_of Token.Word at (at + n)) t Sort.SectionId refl (Some v) (sym (ap section_id_of here ∙ whole_of_exact 10 5 w f low high ∙ ap Some e)) v refl

  module _ (d : ℕ) (f : figure_at s at ≡ Some d) where
    first : Figure s at d
    first = figured s at d f

    pub one_small : d < 10
    one_small = first.small

    pub one_inside : at + 1 ≤ length s
    one_inside = omega (arith, first.inside)

    pub id_one : ends_word s (at + 1) ≡ true → Id d (at + 1)
    id_one ends =
        let a = first in
        let v : 0 * 10 + digit_of (get_or s at 0) ≡ d = omega (arith, a.worth) in
        id_is 1 (get_or s at 0 ∷ [])
        (token 1 (omega arith) one_inside (λ j l. let z : at ≡ at + j = omega (arith, l) in subst (λ k. 42 ≤ get_or s k 0) z a.high) ends)
        (ap (take 1) (drop-cons s at 0 a.inside))
        (omega (arith, a.worth, a.small), tt) (omega arith) (omega arith) d v

    module _ (e : ℕ) (g : figure_at s (at + 1) ≡ Some e) where
      second : Figure s (at + 1) e
      second = figured s (at + 1) e g

      pub two_small : e < 10
      two_small = second.small

      pub two_inside : at + 2 ≤ length s
      two_inside = omega (arith, second.inside)

      high : (j : ℕ) → j < 2 → 42 ≤ get_or s (at + j) 0
      high j l =
          split (ltb j 1)
          (λ p. let z : at ≡ at + j = omega (arith, ltb-true j 1 p) in subst (λ i. 42 ≤ get_or s i 0) z first.high)
          (λ p. let z : at + 1 ≡ at + j = omega (arith, l, ltb-false j 1 p) in subst (λ i. 42 ≤ get_or s i 0) z second.high)

      bytes : take 2 (drop at s) ≡ get_or s at 0 ∷ get_or s (at + 1) 0 ∷ []
      bytes =
          ap (take 2) (drop-cons s at 0 first.inside)
          ∙ ap (λ i. get_or s at 0 ∷ take 1 (drop i s)) (sym (add-one at))
          ∙ ap (λ l. get_or s at 0 ∷ take 1 l) (drop-cons s (at + 1) 0 second.inside)

      pub id_two : ends_word s (at + 2) ≡ true → Id (10 * d + e) (at + 2)
      id_two ends =
          let a = first in
          let b = second in
          let v : (0 * 10 + digit_of (get_or s at 0)) * 10 + digit_of (get_or s (at + 1) 0) ≡ 10 * d + e = omega (arith, a.worth, b.worth) in
          id_is 2 (get_or s at 0 ∷ get_or s (at + 1) 0 ∷ []) (token 2 (omega arith) two_inside high ends) bytes
          (omega (arith, a.worth, a.small), (omega (arith, b.worth, b.small), tt)) (omega arith) (omega arith) (10 * d + e) v
