-- A blank between words: what stands behind it is what stands at it, a word ends at it, and no token starts there. Assumes nothing.
use Prim.Native.Nat.{ℕ, ◌+◌, ◌≤◌, ◌<◌}
use mathlib.Core.Path.{◌≡◌, refl, sym, ap, ◌∙◌}
use mathlib.Core.List.{List}
use mathlib.Core.Bool.{true, false, not, false≢true}
use lib.ListN.{length, get_or}
use Rattle.tokens.specs.declared.Class.{Class}
use Rattle.tokens.specs.declared.Run.{Run}
use Rattle.tokens.specs.declared.Step.{Step}
use Rattle.tokens.specs.Tokens.{is_blank, class_of, goes_on, start_of, ends_word, token_from, token_at}
use Rattle.tokens.specs.Listed.{tokens_from, step_then}
use Rattle.tokens.proofs.Laws.{run_more, run_stop, ends_byte}
use Rattle.tokens.proofs.Listed.{tokens_step}
use Rattle.tokens.proofs.Runner.{word_byte}

blank_class : (b : ℕ) → is_blank b ≡ true → class_of b ≡ Class.Blank
unfolding class_of
blank_class b e = rw (e, class_of) refl

no_blank : (c : Class) → goes_on Run.Word c ≡ true → goes_on Run.Blanks c ≡ false
no_blank Class.Blank e = absurd (false≢true e)
no_blank Class.Left e = refl
no_blank Class.Right e = refl
no_blank Class.Quote e = refl
no_blank Class.Other e = refl

module _ (s : List ℕ) (i : ℕ) (h : i < length s) where
  -- the next token is the same from behind a blank
  pub blank_on : is_blank (get_or s i 0) ≡ true → tokens_from s i ≡ tokens_from s (i + 1)
  unfolding token_at
  blank_on e =
      let start : start_of s (i + 1) ≡ start_of s i = run_more Run.Blanks s i h (ap (goes_on Run.Blanks) (blank_class (get_or s i 0) e)) in
      let token : token_at s i ≡ token_at s (i + 1) = ap (token_from s) (sym start) in
      tokens_step s i ∙ ap (λ (t : Step). step_then t s (tokens_from s t.next.at)) token ∙ sym (tokens_step s (i + 1))

  pub blank_ends : is_blank (get_or s i 0) ≡ true → ends_word s i ≡ true
  blank_ends e = sym (ends_byte s i h) ∙ ap (λ c. not (goes_on Run.Word c)) (blank_class (get_or s i 0) e)

  -- a token starts at a byte above `)`
  pub start_here : 42 ≤ get_or s i 0 → i ≡ start_of s i
  start_here l = run_stop Run.Blanks s i h (no_blank (class_of (get_or s i 0)) (word_byte (get_or s i 0) l))
