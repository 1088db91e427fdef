-- A word found by its bytes: from the token's start on bytes that can stand in a word, and then its end. Assumes nothing.
use Prim.Native.Nat.{ℕ, ◌+◌, ◌-◌, ◌≤◌, ◌<◌, min}
use native.Mathlib.Omega.{arith}
use mathlib.Core.Path.{◌≡◌, sym, ap, subst, ◌∙◌}
use mathlib.Core.List.{List}
use mathlib.Core.Bool.{true}
use borrow.Author.Tests.{ltb-true, ltb-false}
use lib.Dec.{ltb}
use lib.ListN.{length, take, drop, get_or, length-take, length-drop}
use lib.Seq.{take_all, take-take, get_or-take, get_or-drop}
use Rattle.facts.proofs.Branch.{split}
use Rattle.tokens.specs.declared.Token.{Token}
use Rattle.tokens.specs.Tokens.{start_of, ends_word, step_of, token_at}
use Rattle.tokens.proofs.Runner.{word_found}
use Rattle.pairs.specs.Pairs.{window}

-- a part of the file that ends at the window's end is the window
pub window_is : (s : List ℕ) (at most : ℕ) → start_of s at ≤ length s → take (start_of s at + min most (length s - start_of s at) - start_of s at) (drop (start_of s at) s) ≡ window s at most
window_is s at most h =
    let rest = length s - start_of s at in
    let n : start_of s at + min most rest - start_of s at ≡ min most rest = omega arith in
    let d = length-drop (start_of s at) s in
    ap (λ k. take k (drop (start_of s at) s)) n
    ∙ split (ltb rest most)
    (λ p. let z : min most rest ≡ rest = omega (arith, ltb-true rest most p) in
    ap (λ k. take k (drop (start_of s at) s)) z ∙ take_all rest (drop (start_of s at) s) (omega (arith, d)) ∙ sym (take_all most (drop (start_of s at) s) (omega (arith, d, ltb-true rest most p))))
    (λ p. let z : min most rest ≡ most = omega (arith, ltb-false rest most p) in ap (λ k. take k (drop (start_of s at) s)) z)

module _ (s : List ℕ) (at most n : ℕ) (some : 1 ≤ n) (fits : n ≤ length (window s at most)) where
  pub inside : start_of s at + n ≤ length s
  inside = omega (arith, some, fits, length-take most (drop (start_of s at) s), length-drop (start_of s at) s)

  short : n ≤ most
  short = omega (arith, fits, length-take most (drop (start_of s at) s))

  same_byte : (j : ℕ) → j < n → get_or (window s at most) j 0 ≡ get_or s (start_of s at + j) 0
  same_byte j h = get_or-take most (drop (start_of s at) s) j 0 (omega (arith, h, short)) ∙ get_or-drop (start_of s at) s j 0

  -- the word's bytes are the window's first n
  pub word_bytes : take (start_of s at + n - start_of s at) (drop (start_of s at) s) ≡ take n (window s at most)
  word_bytes =
      let z : start_of s at + n - start_of s at ≡ n = omega arith in
      ap (λ k. take k (drop (start_of s at) s)) z ∙ sym (take-take n most (drop (start_of s at) s) short)

  pub word_here : ((j : ℕ) → j < n → 42 ≤ get_or (window s at most) j 0) → ends_word s (start_of s at + n) ≡ true → step_of Token.Word (start_of s at) (start_of s at + n) ≡ token_at s at
  word_here g e = word_found s at n some inside (λ j h. subst (λ b. 42 ≤ b) (same_byte j h) (g j h)) e
