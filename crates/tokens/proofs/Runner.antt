-- A word by its bytes: from a token's start on bytes go on with a word, and then it ends. Assumes nothing.
use Prim.Native.Nat.{ℕ, zero, suc, ◌+◌, ◌≤◌, ◌<◌}
use native.Mathlib.Omega.{arith}
use mathlib.Core.Path.{◌≡◌, refl, sym, ap, ◌∙◌}
use mathlib.Core.List.{List}
use mathlib.Core.Bool.{true, false≢true}
use borrow.Author.Tests.{ne_eqb, ltb-true, ltb-false, not-true}
use lib.Dec.{ltb}
use lib.ListN.{length, get_or}
use Rattle.facts.proofs.Branch.{split}
use Rattle.tokens.specs.declared.Class.{Class}
use Rattle.tokens.specs.declared.Run.{Run}
use Rattle.tokens.specs.declared.Token.{Token}
use Rattle.tokens.specs.Tokens.{is_blank, class_of, goes_on, run_at, start_of, ends_word, step_of, token_of, token_at}
use Rattle.tokens.proofs.Laws.{run_more, run_stop, run_out, ends_byte, token_is}

-- a byte that goes on with a word
abbrev InWord : List ℕ → ℕ → Type 0
InWord s i = goes_on Run.Word (class_of (get_or s i 0)) ≡ true

only_other : (c : Class) → goes_on Run.Word c ≡ true → Class.Other ≡ c
only_other Class.Blank e = absurd (false≢true e)
only_other Class.Left e = absurd (false≢true e)
only_other Class.Right e = absurd (false≢true e)
only_other Class.Quote e = absurd (false≢true e)
only_other Class.Other e = refl

-- every byte above `)` can stand in a word
pub word_byte : (b : ℕ) → 42 ≤ b → goes_on Run.Word (class_of b) ≡ true
unfolding class_of
word_byte b h =
    rw (
      ne_eqb b 32 (λ e. omega (arith, h, e)),
      ne_eqb b 9 (λ e. omega (arith, h, e)),
      ne_eqb b 10 (λ e. omega (arith, h, e)),
      ne_eqb b 13 (λ e. omega (arith, h, e)),
      ne_eqb b 40 (λ e. omega (arith, h, e)),
      ne_eqb b 41 (λ e. omega (arith, h, e)),
      ne_eqb b 34 (λ e. omega (arith, h, e)),
      class_of,
    ) refl

blank_goes : (b : ℕ) → is_blank b ≡ true → goes_on Run.Blanks (class_of b) ≡ true
unfolding class_of
blank_goes b e = rw (e, class_of)

module _ (s : List ℕ) where
  ended : (i : ℕ) → ends_word s i ≡ true → run_at Run.Word s i ≡ i
  ended i e =
      split (ltb i (length s))
      (λ p. sym (run_stop Run.Word s i (ltb-true i (length s) p) (not-true _ (ends_byte s i (ltb-true i (length s) p) ∙ e))))
      (λ p. sym (run_out Run.Word s i (ltb-false i (length s) p)))

  run_to : (n i : ℕ) → i + n ≤ length s → ((j : ℕ) → j < n → InWord s (i + j)) → ends_word s (i + n) ≡ true → run_at Run.Word s i ≡ i + n
  run_to zero i h g e = let z : i + 0 ≡ i = omega arith in rw z (ended i (ap (λ k. ends_word s k) (sym z) ∙ e))
  run_to (suc n) i h g e =
      let z : i + suc n ≡ i + 1 + n = omega arith in
      let first : i + 0 ≡ i = omega arith in
      sym (run_more Run.Word s i (omega arith) (ap (λ k. goes_on Run.Word (class_of (get_or s k 0))) (sym first) ∙ g 0 (omega arith)))
      ∙ run_to n (i + 1) (omega arith) (λ j l. let m : i + 1 + j ≡ i + suc j = omega arith in ap (λ k. goes_on Run.Word (class_of (get_or s k 0))) m ∙ g (suc j) (omega arith)) (ap (λ k. ends_word s k) (sym z) ∙ e)
      ∙ sym z

  -- n bytes of a word from the token's start on, and its end: that is the token
  word_is : (at i n : ℕ) → i ≡ run_at Run.Blanks s at → 1 ≤ n → i + n ≤ length s → ((j : ℕ) → j < n → InWord s (i + j)) → ends_word s (i + n) ≡ true
      → token_at s at ≡ step_of Token.Word i (i + n)
  unfolding token_of
  word_is at i n b few h g e =
      let first : i + 0 ≡ i = omega arith in
      let in-word : InWord s i = ap (λ k. goes_on Run.Word (class_of (get_or s k 0))) (sym first) ∙ g 0 few in
      sym (token_is s i at b Class.Other (omega (arith, h, few)) (only_other _ in-word))
      ∙ ap (λ k. step_of Token.Word i k) (run_more Run.Word s i (omega (arith, h, few)) in-word ∙ run_to n i h g e)

  -- bytes above `)` from the token's start on, and its end
  pub word_found : (at n : ℕ) → 1 ≤ n → start_of s at + n ≤ length s → ((j : ℕ) → j < n → 42 ≤ get_or s (start_of s at + j) 0) → ends_word s (start_of s at + n) ≡ true
      → step_of Token.Word (start_of s at) (start_of s at + n) ≡ token_at s at
  word_found at n few h g e = sym (word_is at (start_of s at) n refl few h (λ j l. word_byte (get_or s (start_of s at + j) 0) (g j l)) e)

  -- one blank, and behind it a byte above `)`: the token starts there
  pub start_next : (at : ℕ) → at + 1 < length s → is_blank (get_or s at 0) ≡ true → 42 ≤ get_or s (at + 1) 0 → at + 1 ≡ start_of s at
  start_next at h b g =
      let c = only_other (class_of (get_or s (at + 1) 0)) (word_byte (get_or s (at + 1) 0) g) in
      run_stop Run.Blanks s (at + 1) h (ap (λ k. goes_on Run.Blanks k) (sym c)) ∙ run_more Run.Blanks s at (omega (arith, h)) (blank_goes (get_or s at 0) b)
