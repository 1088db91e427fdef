-- The token at a mark by the byte there: a parenthesis, or else a quote and with it the string. Assumes nothing.
use Prim.Native.Nat.{ℕ, ◌+◌, ◌≤◌, ◌<◌}
use mathlib.Core.Path.{◌≡◌, refl, sym, ap, subst, ◌∙◌}
use mathlib.Core.List.{List}
use mathlib.Core.Bool.{false, false≢true}
use borrow.Author.Tests.{ne_eqb}
use lib.Dec.{eqb}
use lib.ListN.{length, get_or}
use Rattle.facts.proofs.Branch.{split}
use Rattle.tokens.specs.declared.Class.{Class}
use Rattle.tokens.specs.declared.Run.{Run}
use Rattle.tokens.specs.declared.Token.{Token}
use Rattle.tokens.specs.Tokens.{is_blank, class_of, goes_on, start_of, mark_of, quote_of, step_of, token_of, token_at}
use Rattle.tokens.proofs.Ended.{Ends, run_ends}
use Rattle.tokens.proofs.Laws.{run_stop, run_out, token_is, token_end, text_closed, text_unclosed}

left_class : (b : ℕ) → b ≡ 40 → Class.Left ≡ class_of b
unfolding class_of
left_class b e = rw e

right_class : (b : ℕ) → b ≡ 41 → Class.Right ≡ class_of b
unfolding class_of
right_class b e = rw e

-- a byte that does not go on with what is passed, and is no parenthesis
quote_class : (b : ℕ) → (b ≡ 40 → ⊥) → (b ≡ 41 → ⊥) → goes_on Run.Plain (class_of b) ≡ false → Class.Quote ≡ class_of b
unfolding class_of
quote_class b l r g =
    split (is_blank b)
    (λ p. let e : class_of b ≡ Class.Blank = rw (p, class_of) in absurd (false≢true (sym g ∙ ap (λ k. goes_on Run.Plain k) e)))
    (λ p. split (eqb b 34)
    (λ q. rw (p, ne_eqb b 40 l, ne_eqb b 41 r, q, class_of))
    (λ q. let e : class_of b ≡ Class.Other = rw (p, ne_eqb b 40 l, ne_eqb b 41 r, q, class_of) in absurd (false≢true (sym g ∙ ap (λ k. goes_on Run.Plain k) e))))

module _ (s : List ℕ) (m : ℕ) where
  -- no blank stands here
  solid_is : (k : Class) → m < length s → k ≡ class_of (get_or s m 0) → goes_on Run.Blanks k ≡ false → token_of k s m ≡ token_at s m
  solid_is k h c n = token_is s m m (run_stop Run.Blanks s m h (ap (λ k. goes_on Run.Blanks k) (sym c) ∙ n)) k h c

  pub mark_left : m < length s → get_or s m 0 ≡ 40 → step_of Token.Left m (m + 1) ≡ token_at s m
  unfolding token_of
  mark_left h b = solid_is Class.Left h (left_class (get_or s m 0) b) refl

  -- the blanks from `at` on end here
  pub start_left : (at : ℕ) → m ≡ start_of s at → m < length s → get_or s m 0 ≡ 40 → step_of Token.Left m (m + 1) ≡ token_at s at
  unfolding token_of
  start_left at b h e = token_is s m at b Class.Left h (left_class (get_or s m 0) e)

  pub mark_right : m < length s → get_or s m 0 ≡ 41 → step_of Token.Right m (m + 1) ≡ token_at s m
  unfolding token_of
  mark_right h b = solid_is Class.Right h (right_class (get_or s m 0) b) refl

  pub mark_end : length s ≤ m → step_of Token.End (length s) (length s) ≡ token_at s m
  mark_end h = token_end s m m (run_out Run.Blanks s m h) h

  -- a mark that is no parenthesis is a quote, whose string ends at e
  module _ (c : ℕ) (at_mark : m ≡ mark_of s c) (h : m < length s) (no_left : get_or s m 0 ≡ 40 → ⊥) (no-right : get_or s m 0 ≡ 41 → ⊥) where
    quote_there : Class.Quote ≡ class_of (get_or s m 0)
    quote_there = quote_class (get_or s m 0) no_left no-right (subst (Ends Run.Plain s) (sym at_mark) (run_ends Run.Plain s c) h)

    module _ (e : ℕ) (q : e ≡ quote_of s (m + 1)) where
      pub mark_text : e < length s → step_of Token.Text m (e + 1) ≡ token_at s m
      mark_text l = text_closed s m e q l ∙ solid_is Class.Quote h quote_there refl

      pub mark_cut : length s ≤ e → step_of Token.Unclosed m e ≡ token_at s m
      mark_cut l = text_unclosed s m e q l ∙ solid_is Class.Quote h quote_there refl
