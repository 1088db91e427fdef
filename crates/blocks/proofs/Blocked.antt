-- Eight bytes, all of them digits and blanks: what the block's answer says of them. Assumes nothing.
use Prim.Native.Nat.{ℕ, zero, suc, ◌+◌, ◌-◌, ◌*◌, ◌/◌, ◌≤◌, ◌<◌, zero-le}
use native.Mathlib.Omega.{arith}
use mathlib.Core.Path.{◌≡◌, refl, sym, ap, ap₂, subst, ◌∙◌}
use mathlib.Core.List.{List, [], ◌∷◌, map}
use Rattle.std.specs.Prelude.{Option, None}
use mathlib.Core.Bool.{Bool, true, false}
use borrow.Author.Tests.{eqb-true, eqb-false, ltb-true, ltb-false}
use lib.Dec.{eqb, ltb}
use lib.ListN.{length, length-map}
use lib.Count.{count_trailing_zeros, count_leading_zeros, trailing_le}
use Rattle.facts.proofs.Branch.{split, either}
use Rattle.digits.specs.declared.group.Base.{Base}
use Rattle.digits.specs.Digits.{digit_of, Digits, digits_in}
use Rattle.digits.specs.Lanes.{lanes, Laned, marks_of}
use Rattle.digits.proofs.Grouping.{marks_in}
use Rattle.digits.proofs.Gathered.{gathered_count}
use Rattle.blocks.specs.declared.block.Block.{Block}
use Rattle.blocks.specs.Blocks.{blanks_of, carry_of, words_of, block, block_by, block_of, is_hex, one, ends, tail, Fair, Read, BlockIs}
use Rattle.blocks.proofs.Counted.{blank_of, blanks_in, lanes_same, none_of, none_small, blank_small, under_map, plain_by, chosen, words_are, nones, tail_is}

-- ---- no more than 8 digits one behind the other
abbrev pub Chosen : Bool → Type 0 → Type 0 → Type 0
Chosen q a b = elim q [ true ↦ a | false ↦ b ]

fair_step : (w : List ℕ) (t : ℕ) → ((k : ℕ) → k + length w ≤ 8 → Fair k w) → t + suc (length w) ≤ 8 → (q : Bool) → Chosen q ((suc t ≤ 8) × Fair (suc t) w) (Fair 0 w)
fair_step w t ih h true = (omega (arith, h), ih (suc t) (omega (arith, h)))
fair_step w t ih h false = ih 0 (omega (arith, h))

fair_short : (w : List ℕ) (t : ℕ) → t + length w ≤ 8 → Fair t w
fair_short [] t h = tt
fair_short (b ∷ w) t h = fair_step w t (λ k l. fair_short w k l) h (is_hex b)

counted_least : (w : List ℕ) (v n : ℕ) → n ≤ (digits_in 16 v n w).count
unfolding digits_in
counted_least [] v n = omega arith
counted_least (b ∷ w) v n = either (λ (d : Digits). n ≤ d.count) (is_hex b) (λ _. omega (arith, counted_least w (v * 16 + digit_of b) (suc n))) (λ _. omega arith)

pub fair_lead : (w : List ℕ) (t v n : ℕ) → length w ≤ 8 → t + (digits_in 16 v n w).count ≤ 8 + n → Fair t w
unfolding digits_in
fair_lead [] t v n l h = tt
fair_lead (b ∷ w) t v n l h =
    split (is_hex b)
    (λ p. let e : (digits_in 16 v n (b ∷ w)).count ≡ (digits_in 16 (v * 16 + digit_of b) (suc n) w).count = rw (p, digits_in) refl in
    subst (λ (q : Bool). Chosen q ((suc t ≤ 8) × Fair (suc t) w) (Fair 0 w)) (sym p)
    (omega (arith, h, e, counted_least w (v * 16 + digit_of b) (suc n)), fair_lead w (suc t) (v * 16 + digit_of b) (suc n) (omega (arith, l)) (omega (arith, h, e))))
    (λ p. subst (λ (q : Bool). Chosen q ((suc t ≤ 8) × Fair (suc t) w) (Fair 0 w)) (sym p) (fair_short w 0 (omega (arith, l))))

ends_step : (w : List ℕ) (t : ℕ) → ((k : ℕ) → ends k w ≤ length w) → (q : Bool) → chosen q (ends (suc t) w) (one t + ends 0 w) ≤ suc (length w)
ends_step w t ih true = omega (arith, ih (suc t))
ends_step w zero ih false = omega (arith, ih 0)
ends_step w (suc t) ih false = omega (arith, ih 0)

pub ends_few : (w : List ℕ) (t : ℕ) → ends t w ≤ length w
ends_few [] t = zero-le
ends_few (b ∷ w) t = ends_step w t (λ k. ends_few w k) (is_hex b)

-- ---- all of it
module _ (x t none : ℕ) (e : none ≡ marks_of Base.Sixteen x) (same-lanes : none ≡ blanks_of x) (some : none ≡ 0 → ⊥) (reach : t + count_trailing_zeros 64 none / 8 ≤ 8) where
  pub block_read : (k : ℕ) → k ≡ words_of none t → (w : List ℕ) → Laned w x → length w ≡ 8 → Read t w k (count_leading_zeros 64 none / 8)
  block_read k f w l n =
      let m : none ≡ nones w = e ∙ ap (marks_of Base.Sixteen) l.same ∙ marks_in w n l.bytes Base.Sixteen in
      let b : nones w ≡ lanes 8 (map blank_of w) = sym m ∙ same-lanes ∙ ap blanks_of l.same ∙ blanks_in w n l.bytes in
      let maps : map none_of w ≡ map blank_of w = lanes_same (map none_of w) (map blank_of w) (length-map w none_of ∙ sym (length-map w blank_of)) (under_map none_of none_small w) (under_map blank_of blank_small w) b in
      let count : count_trailing_zeros 64 none / 8 ≡ (digits_in 16 0 0 w).count = ap (λ (k : ℕ). count_trailing_zeros 64 k / 8) e ∙ gathered_count Base.Sixteen x w l (omega (arith, n)) in
      let size : 8 * length w ≡ 64 = omega (arith, n) in
      let top : count_leading_zeros 64 none ≡ 8 * tail t w = ap₂ count_leading_zeros (sym size) m ∙ tail_is w t (omega (arith, m, some)) in
      record {
        plain = plain_by w maps;
        fair = fair_lead w t 0 0 (omega (arith, n)) (omega (arith, count, reach));
        words = f ∙ ap (λ (k : ℕ). words_of k t) m ∙ words_are w t n;
        last = omega (arith, top);
      }

-- ---- the answer
module _ (n b t : ℕ) where
  abbrev Not : Option Block → Type 0
  Not r = None ≡ r

  pub by_mixed : (n ≡ b → ⊥) → Not (block_by n b t)
  by_mixed h = either Not (eqb n b) (λ p. absurd (h (eqb-true n b p))) (λ _. refl)

  module _ (e : n ≡ b) where
    pub by_none : n ≡ 0 → Not (block_by n b t)
    by_none z = either Not (eqb n b) (λ _. either Not (eqb n 0) (λ _. refl) (λ q. absurd (eqb-false n 0 q z))) (λ q. absurd (eqb-false n b q e))

    module _ (z : n ≡ 0 → ⊥) where
      abbrev room : ℕ
      room = 8 - count_trailing_zeros 64 n / 8

      pub by_long : room < t → Not (block_by n b t)
      by_long l =
          either Not (eqb n b)
          (λ _. either Not (eqb n 0) (λ q. absurd (z (eqb-true n 0 q))) (λ _. either Not (ltb room t) (λ _. refl) (λ q. absurd (omega (arith, l, ltb-false room t q)))))
          (λ q. absurd (eqb-false n b q e))

      abbrev Words : Option Block → Type 0
      Words r = block (words_of n t) (count_leading_zeros 64 n / 8) ≡ r

      pub by_words : t ≤ room → (k : ℕ) → k ≡ words_of n t → block k (count_leading_zeros 64 n / 8) ≡ block_by n b t
      by_words l k q =
          ap (λ (m : ℕ). block m (count_leading_zeros 64 n / 8)) q
          ∙ either Words (eqb n b)
          (λ _. either Words (eqb n 0) (λ p. absurd (z (eqb-true n 0 p))) (λ _. either Words (ltb room t) (λ p. absurd (omega (arith, l, ltb-true room t p))) (λ _. refl)))
          (λ p. absurd (eqb-false n b p e))

-- of the lanes that the code finds
pub block_by_lem : (x t : ℕ) {n b : ℕ} {r : Option Block} → n ≡ marks_of Base.Sixteen x → b ≡ blanks_of x → r ≡ block_by n b t → r ≡ block_of x t
block_by_lem x t {n} {b} p q e = e ∙ ap (λ (m : ℕ). block_by m b t) p ∙ ap (λ (m : ℕ). block_by (marks_of Base.Sixteen x) m t) q

-- what it says of the eight bytes
pub block_is : (x t : ℕ) → BlockIs x t (block_of x t)
block_is x t =
    let n : ℕ = marks_of Base.Sixteen x in
    either (BlockIs x t) (eqb n (blanks_of x))
    (λ p. either (BlockIs x t) (eqb n 0) (λ _. tt)
    (λ q. either (BlockIs x t) (ltb (8 - count_trailing_zeros 64 n / 8) t) (λ _. tt)
    (λ l. block_read x t n refl (eqb-true n (blanks_of x) p) (eqb-false n 0 q)
    (omega (arith, ltb-false (8 - count_trailing_zeros 64 n / 8) t l, trailing_le 64 n)) (words_of n t) refl)))
    (λ _. tt)

pub carry_some : (t : ℕ) → (t ≡ 0 → ⊥) → 128 ≡ carry_of t
carry_some zero h = absurd (h refl)
carry_some (suc t) h = refl
