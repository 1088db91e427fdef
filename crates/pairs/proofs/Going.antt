-- The usual coordinate word where only its place is wanted: what the code finds is what the definition says. Assumes nothing.
use Rattle.std.specs.Prelude.{Option, Some, None}
use Prim.Native.Nat.{ℕ, ◌+◌, ◌-◌, ◌≤◌, min}
use mathlib.Core.Path.{◌≡◌, sym, ap, subst, ◌∙◌}
use mathlib.Core.List.{List}
use mathlib.Core.Bool.{Bool, true, false}
use lib.ListN.{length, take, drop, drop_of_length-le}
use Rattle.tokens.specs.Tokens.{start_of, ends_word}
use Rattle.digits.specs.Digits.{digits_in}
use Rattle.decimals.specs.Coordinate.{sign_in, fraction_in}
use Rattle.decimals.specs.Lead.{lead_of}
use Rattle.decimals.specs.Mild.{mild_of}
use Rattle.decimals.proofs.Harmless.{Harmless, mild_harmless}
use Rattle.pairs.specs.Pairs.{window, went_by, went_of}
use Rattle.pairs.proofs.Leading.{lead_inside}
use Rattle.pairs.proofs.Windows.{window_is}

module _ (s : List ℕ) (at : ℕ) where
  -- nothing stands past the end
  pub went_past : (i : ℕ) → i ≡ start_of s at → length s ≤ i → None ≡ went_of s at
  unfolding went_of mild_of sign_in digits_in fraction_in
  went_past i b h = rw (drop_of_length-le s (subst (λ k. length s ≤ k) b h))

  -- the coordinate at the start of the part of the file up to e
  pub mild_here : (i e : ℕ) (m : Option ℕ) → i ≡ start_of s at → i ≤ length s → e ≡ i + min 64 (length s - i) → m ≡ mild_of (take (e - i) (drop i s)) → m ≡ mild_of (window s at 64)
  mild_here i e m b h w f =
      f ∙ ap (λ k. mild_of (take (k - i) (drop i s))) w ∙ ap (λ k. mild_of (take (k + min 64 (length s - k) - k) (drop k s))) b
      ∙ ap mild_of (window_is s at 64 (subst (λ k. k ≤ length s) b h))

  module _ (i : ℕ) (b : i ≡ start_of s at) (m : Option ℕ) (f : m ≡ mild_of (window s at 64)) where
    by_found : went_by s i m ≡ went_of s at
    unfolding went_of
    by_found = λ j. went_by s (b j) (f j)

    pub went_none : m ≡ None → None ≡ went_of s at
    went_none e = sym (ap (went_by s i) e) ∙ by_found

    module _ (n : ℕ) (e : m ≡ Some n) where
      picked : (t : Bool) → ends_word s (i + n) ≡ t → elim t [ true ↦ Some (i + n) | false ↦ None ] ≡ went_of s at
      picked t q = sym (ap (went_by s i) e ∙ ap (λ t. elim t [ true ↦ Some (i + n) | false ↦ None ]) q) ∙ by_found

      pub went_on : ends_word s (i + n) ≡ false → None ≡ went_of s at
      went_on q = picked false q

      pub went_to : ends_word s (i + n) ≡ true → Some (i + n) ≡ went_of s at
      went_to q = picked true q

      harmless : Harmless (window s at 64) n
      harmless = mild_harmless (window s at 64) n (sym f ∙ e)

      -- the place behind it is in the file
      pub went_fits : i + n ≤ length s
      went_fits =
          let h = harmless in
          subst (λ k. i + k ≤ length s) h.next (subst (λ k. k + (lead_of (window s at 64)).next ≤ length s) (sym b) (lead_inside s at (record { mantissa = h.kept.mantissa; exponent = h.kept.exponent }) h.kept.is))
