-- Blanks and words before a parenthesis or a string can be passed at once by whatever passes words. Assumes nothing.
use Prim.Native.Nat.{ℕ, zero, suc, ◌+◌, ◌≤◌, ◌<◌}
use native.Mathlib.Omega.{arith}
use mathlib.Core.Path.{◌≡◌, refl, sym, ap, ◌∙◌}
use mathlib.Core.List.{List, ◌∷◌}
use mathlib.Core.Bool.{true, false≢true}
use borrow.Author.Tests.{ltb-true, ltb-false}
use lib.Dec.{ltb}
use lib.ListN.{length, get_or}
use Rattle.facts.proofs.Branch.{split}
use Rattle.tokens.specs.declared.Class.{Class}
use Rattle.tokens.specs.declared.Run.{Run}
use Rattle.tokens.specs.declared.Step.{Step}
use Rattle.tokens.specs.Tokens.{class_of, goes_on, run_at, mark_of, token_of, token_from, token_at}
use Rattle.tokens.specs.Listed.{Tok, word, step_then, tokens_from}
use Rattle.tokens.proofs.Laws.{run_more, run_stop, run_out, token_is}
use Rattle.tokens.proofs.Listed.{tokens_step}

module _ (s : List ℕ) {A : Type 0} (f : List Tok → A) (passes : (o : ℕ) (w : List ℕ) (ts : List Tok) → f (word o w ∷ ts) ≡ f ts) where
  abbrev marks_from : ℕ → A
  marks_from i = f (tokens_from s i)

  same_token : (i j : ℕ) → token_at s i ≡ token_at s j → tokens_from s i ≡ tokens_from s j
  same_token i j e = tokens_step s i ∙ ap (λ (t : Step). step_then t s (tokens_from s t.next.at)) e ∙ sym (tokens_step s j)

  -- a word that starts here
  word_at : (i : ℕ) → i < length s → Class.Other ≡ class_of (get_or s i 0) → marks_from i ≡ marks_from (run_at Run.Word s (i + 1))
  unfolding token_of
  word_at i h c =
      let b = run_stop Run.Blanks s i h (ap (λ k. goes_on Run.Blanks k) (sym c)) in
      let t = token_is s i i b Class.Other h c in
      ap f (tokens_step s i ∙ ap (λ (t : Step). step_then t s (tokens_from s t.next.at)) (sym t)) ∙ passes i _ (tokens_from s (run_at Run.Word s (i + 1)))

  blank_byte_lem : (i : ℕ) → i < length s → Class.Blank ≡ class_of (get_or s i 0) → marks_from i ≡ marks_from (i + 1)
  unfolding token_at
  blank_byte_lem i h c = ap f (same_token i (i + 1) (ap (token_from s) (sym (run_more Run.Blanks s i h (ap (λ k. goes_on Run.Blanks k) (sym c))))))

  word_on : (i : ℕ) → i < length s → (k : Class) → k ≡ class_of (get_or s i 0) → marks_from (run_at Run.Word s i) ≡ marks_from i
  word_on i h Class.Blank c = ap marks_from (sym (run_stop Run.Word s i h (ap (λ k. goes_on Run.Word k) (sym c))))
  word_on i h Class.Left c = ap marks_from (sym (run_stop Run.Word s i h (ap (λ k. goes_on Run.Word k) (sym c))))
  word_on i h Class.Right c = ap marks_from (sym (run_stop Run.Word s i h (ap (λ k. goes_on Run.Word k) (sym c))))
  word_on i h Class.Quote c = ap marks_from (sym (run_stop Run.Word s i h (ap (λ k. goes_on Run.Word k) (sym c))))
  word_on i h Class.Other c = ap marks_from (sym (run_more Run.Word s i h (ap (λ k. goes_on Run.Word k) (sym c)))) ∙ sym (word_at i h c)

  word_rest : (i : ℕ) → marks_from (run_at Run.Word s i) ≡ marks_from i
  word_rest i =
      split (ltb i (length s)) (λ p. word_on i (ltb-true i (length s) p) (class_of (get_or s i 0)) refl)
      (λ p. ap marks_from (sym (run_out Run.Word s i (ltb-false i (length s) p))))

  plain_byte : (i : ℕ) → i < length s → (k : Class) → k ≡ class_of (get_or s i 0) → goes_on Run.Plain k ≡ true → marks_from i ≡ marks_from (i + 1)
  plain_byte i h Class.Blank c g = blank_byte_lem i h c
  plain_byte i h Class.Left c g = absurd (false≢true g)
  plain_byte i h Class.Right c g = absurd (false≢true g)
  plain_byte i h Class.Quote c g = absurd (false≢true g)
  plain_byte i h Class.Other c g = word_at i h c ∙ word_rest (i + 1)

  -- n bytes are left
  marks_by : (n i : ℕ) → length s ≤ i + n → (marks_from i ≡ marks_from (mark_of s i)) × (i ≤ mark_of s i)
  marks_by zero i h = let e = run_out Run.Plain s i (omega (arith, h)) in (ap marks_from e, omega (arith, e))
  marks_by (suc n) i h =
      split (ltb i (length s))
      (λ p. let l = ltb-true i (length s) p in
      split (goes_on Run.Plain (class_of (get_or s i 0)))
      (λ g. let e = run_more Run.Plain s i l g in let r = marks_by n (i + 1) (omega (arith, h)) in (plain_byte i l (class_of (get_or s i 0)) refl g ∙ r.0 ∙ ap marks_from e, omega (arith, r.1, e)))
      (λ g. let e = run_stop Run.Plain s i l g in (ap marks_from e, omega (arith, e))))
      (λ p. let e = run_out Run.Plain s i (ltb-false i (length s) p) in (ap marks_from e, omega (arith, e)))

  pub marks_on : (i : ℕ) → f (tokens_from s i) ≡ f (tokens_from s (mark_of s i))
  marks_on i = (marks_by (length s) i (omega arith)).0

  pub mark_behind : (i : ℕ) → i ≤ mark_of s i
  mark_behind i = (marks_by (length s) i (omega arith)).1
