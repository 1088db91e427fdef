-- The usual coordinate word: what the code finds is what the definition says. Assumes nothing.
use Rattle.std.specs.Prelude.{Option, Some, None}
use Prim.Native.Nat.{ℕ, ◌+◌, ◌-◌, ◌≤◌, min}
use native.Mathlib.Omega.{arith}
use mathlib.Core.Path.{◌≡◌, refl, sym, ap, subst, ◌∙◌}
use mathlib.Core.List.{List}
use mathlib.Core.Bool.{Bool, true, false}
use lib.ListN.{length, take, drop, length-take, length-drop}
use Rattle.tokens.specs.Tokens.{start_of, ends_word}
use Rattle.decimals.specs.declared.decimal.Decimal.{Decimal}
use Rattle.facts.specs.declared.Taken.{Taken}
use Rattle.decimals.specs.Lead.{lead_of}
use Rattle.decimals.proofs.Led.{lead_next}
use Rattle.pairs.specs.Pairs.{window, led, leads_by, leads_of}
use Rattle.pairs.proofs.Windows.{window_is, inside}

module _ (s : List ℕ) (at : ℕ) where
  -- the coordinate at the start of the part of the file up to e
  pub lead_here : (i e : ℕ) (l : Taken (Option Decimal)) → i ≡ start_of s at → i ≤ length s → e ≡ i + min 64 (length s - i) → l ≡ lead_of (take (e - i) (drop i s)) → l ≡ lead_of (window s at 64)
  lead_here i e l b h w f =
      f ∙ ap (λ k. lead_of (take (k - i) (drop i s))) w ∙ ap (λ k. lead_of (take (k + min 64 (length s - k) - k) (drop k s))) b
      ∙ ap lead_of (window_is s at 64 (subst (λ k. k ≤ length s) b h))

  pub lead_inside : (d : Decimal) → (lead_of (window s at 64)).value ≡ Some d → start_of s at + (lead_of (window s at 64)).next ≤ length s
  lead_inside d e = let n = lead_next (window s at 64) d.mantissa d.exponent e in inside s at 64 (lead_of (window s at 64)).next n.0 n.1

  -- nothing stands past the end
  past_by : length s ≤ start_of s at → (d : Option Decimal) → (lead_of (window s at 64)).value ≡ d → None ≡ leads_by s (start_of s at) (lead_of (window s at 64)).next d
  past_by h (Some d) e =
      let n = lead_next (window s at 64) d.mantissa d.exponent e in
      absurd (omega (arith, h, n.0, n.1, length-take 64 (drop (start_of s at) s), length-drop (start_of s at) s))
  past_by h None e = refl

  pub leads_past : (i : ℕ) → i ≡ start_of s at → length s ≤ i → None ≡ leads_of s at
  unfolding leads_of
  leads_past i b h = past_by (subst (λ k. length s ≤ k) b h) (lead_of (window s at 64)).value refl

  module _ (i : ℕ) (b : i ≡ start_of s at) (l : Taken (Option Decimal)) (f : l ≡ lead_of (window s at 64)) where
    by_found : leads_by s i l.next l.value ≡ leads_of s at
    unfolding leads_of
    by_found = λ j. leads_by s (b j) (f j).next (f j).value

    pub leads_none : l.value ≡ None → None ≡ leads_of s at
    leads_none e = sym (ap (leads_by s i l.next) e) ∙ by_found

    module _ (d : Decimal) (e : l.value ≡ Some d) where
      abbrev pick : Bool → Option (Taken Decimal)
      pick t = elim t [ true ↦ led d (i + l.next) | false ↦ None ]

      picked : (t : Bool) → ends_word s (i + l.next) ≡ t → pick t ≡ leads_of s at
      picked t q = sym (ap (leads_by s i l.next) e ∙ ap pick q) ∙ by_found

      pub leads_on : ends_word s (i + l.next) ≡ false → None ≡ leads_of s at
      leads_on q = picked false q

      pub leads_is : ends_word s (i + l.next) ≡ true → led d (i + l.next) ≡ leads_of s at
      leads_is q = picked true q

      -- the place behind it is in the file
      pub leads_fits : i + l.next ≤ length s
      leads_fits =
          let h : (lead_of (window s at 64)).value ≡ Some d = ap (λ (y : Taken (Option Decimal)). y.value) (sym f) ∙ e in
          let k : i + l.next ≡ start_of s at + (lead_of (window s at 64)).next = λ j. b j + (f j).next in
          omega (arith, k, lead_inside d h)
