-- The usual coordinate word where only its place is wanted: a coordinate word stands there. Assumes nothing.
use Rattle.std.specs.Prelude.{Option, Some, None}
use Prim.Native.Nat.{ℕ, ◌+◌}
use mathlib.Core.Path.{◌≡◌, refl, sym, ap, subst, ◌∙◌}
use mathlib.Core.List.{List}
use mathlib.Core.Bool.{Bool, true, false}
use lib.ListN.{length}
use Rattle.facts.proofs.Branch.{either, differ}
use Rattle.tokens.specs.Tokens.{start_of, ends_word}
use Rattle.tokens.specs.Listed.{tokens_from}
use Rattle.decimals.specs.declared.decimal.Decimal.{Decimal}
use Rattle.decimals.specs.Lead.{lead_of}
use Rattle.decimals.specs.Mild.{mild_of}
use Rattle.decimals.proofs.Harmless.{mild_harmless}
use Rattle.layout.specs.Reading.{pair_word}
use Rattle.pairs.specs.Pairs.{window, went_by, went_of}
use Rattle.spots.specs.Pasts.{taken}
use Rattle.steps.specs.Views.{PairAt}
use Rattle.steps.proofs.Quickly.{pair_found}

abbrev place_of : Option ℕ → ℕ
place_of (Some n) = n
place_of None = 0

abbrev is_to : Option ℕ → Bool
is_to (Some n) = true
is_to None = false

-- a coordinate word is read there, and it ends at n
pub record Paired (s : List ℕ) (at n : ℕ) : Type 0 where
  pub decimal : Decimal
  pub pair : PairAt s at (taken decimal n) (pair_word (length s) (tokens_from s at))

module _ (s : List ℕ) (at : ℕ) where
  module _ (i : ℕ) (b : i ≡ start_of s at) (m : Option ℕ) (f : m ≡ mild_of (window s at 64)) (n : ℕ) (e : m ≡ Some n) where
    there : ends_word s (i + n) ≡ true → Paired s at (i + n)
    there q =
        let h = mild_harmless (window s at 64) n (sym f ∙ e) in
        let d : Decimal = record { mantissa = h.kept.mantissa; exponent = h.kept.exponent } in
        record {
          decimal = d;
          pair =
              subst (λ k. PairAt s at (taken d (i + k)) (pair_word (length s) (tokens_from s at))) h.next
              (pair_found s at i (lead_of (window s at 64)) b refl d h.kept.is (ap (λ k. ends_word s (i + k)) h.next ∙ q));
        }

  -- where it went, there is a coordinate word
  went_by_lem : (m : Option ℕ) → m ≡ mild_of (window s at 64) → (n : ℕ) → went_by s (start_of s at) m ≡ Some n → Paired s at n
  went_by_lem (Some k) f n =
      either (λ r. r ≡ Some n → Paired s at n) (ends_word s (start_of s at + k))
      (λ p q. subst (Paired s at) (ap place_of q) (there (start_of s at) refl (Some k) f k refl p)) (λ _ q. differ false (ap is_to q) refl)
  went_by_lem None f n = λ q. differ false (ap is_to q) refl

  pub went_paired : (r : Option ℕ) → r ≡ went_of s at → (n : ℕ) → r ≡ Some n → Paired s at n
  unfolding went_of
  went_paired r f n e = went_by_lem (mild_of (window s at 64)) refl n (sym f ∙ e)
