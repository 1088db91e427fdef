-- The usual number word: what the code finds is what the definition says. Assumes nothing.
use Prim.Native.Nat.{ℕ, ◌+◌}
use native.Mathlib.Omega.{arith}
use mathlib.Core.Path.{◌≡◌, sym, ap, ◌∙◌}
use mathlib.Core.List.{List}
use Rattle.std.specs.Prelude.{Option, None}
use mathlib.Core.Bool.{Bool, true, false, ◌&&◌}
use borrow.Author.Tests.{lt-ltb}
use lib.Dec.{ltb}
use Rattle.tokens.specs.Tokens.{start_of, ends_word}
use Rattle.digits.specs.declared.quick.Hexes.{Hexes}
use Rattle.facts.specs.declared.Taken.{Taken}
use Rattle.quick.specs.Quick.{known, hexes_from, quick_by, quick_of}

module _ (s : List ℕ) (i : ℕ) (h : Hexes) where
  abbrev pick : Bool → ℕ → Option (Taken ℕ)
  pick t k = elim t [ true ↦ known h.value (i + k) | false ↦ None ]

  pub quick_none : h.count ≡ 0 → None ≡ quick_by s i h
  quick_none z = sym (ap (λ k. pick (ltb 0 k && ends_word s (i + k)) k) z)

  module _ (n : h.count ≡ 0 → ⊥) where
    picked : (t : Bool) → ends_word s (i + h.count) ≡ t → pick t h.count ≡ quick_by s i h
    picked t e = sym (λ j. pick (lt-ltb 0 h.count (omega (arith, n)) j && e j) h.count)

    pub quick_on : ends_word s (i + h.count) ≡ false → None ≡ quick_by s i h
    quick_on e = picked false e

    pub quick_is : ends_word s (i + h.count) ≡ true → known h.value (i + h.count) ≡ quick_by s i h
    quick_is e = picked true e

  -- the digits at the next token's start
  pub quick_from : (at : ℕ) → i ≡ start_of s at → h ≡ hexes_from s i → quick_by s i h ≡ quick_of s at
  unfolding hexes_from quick_of
  quick_from at b f = ap (quick_by s i) f ∙ ap (λ k. quick_by s k (hexes_from s k)) b
