-- A run ends at a byte that does not go on with it, so a word token starts where blanks end and ends where a word ends. Assumes nothing.
use Prim.Native.Nat.{ℕ, zero, suc, ◌+◌, ◌≤◌, ◌<◌}
use native.Mathlib.Omega.{arith}
use mathlib.Core.Path.{◌≡◌, refl, sym, ap, subst, ◌∙◌}
use mathlib.Core.List.{List}
use mathlib.Core.Bool.{Bool, true, false, not, false≢true}
use borrow.Author.Tests.{ltb-true, ltb-false, leb-true, leb-false}
use lib.Dec.{ltb, leb}
use lib.ListN.{length, get_or}
use Rattle.facts.proofs.Branch.{split, differ}
use Rattle.tokens.specs.declared.Class.{Class}
use Rattle.tokens.specs.declared.Run.{Run}
use Rattle.tokens.specs.declared.Token.{Token}
use Rattle.tokens.specs.declared.Step.{Step}
use Rattle.tokens.specs.Tokens.{class_of, goes_on, run_at, start_of, ends_word, step_of, text_to, token_of, token_at}
use Rattle.tokens.proofs.Runner.{word_byte}
use Rattle.tokens.proofs.Laws.{run_more, run_stop, run_out, ends_byte, ends_file, token_is, token_end}

module _ (k : Run) (s : List ℕ) where
  abbrev pub Ends : ℕ → Type 0
  Ends n = n < length s → goes_on k (class_of (get_or s n 0)) ≡ false

  ends_by : (n i : ℕ) → length s ≤ i + n → Ends (run_at k s i)
  ends_by zero i h = λ l. absurd (omega (arith, h, l, run_out k s i (omega (arith, h))))
  ends_by (suc n) i h =
      split (ltb i (length s))
      (λ p. let inside = ltb-true i (length s) p in
      split (goes_on k (class_of (get_or s i 0)))
      (λ g. subst Ends (run_more k s i inside g) (ends_by n (i + 1) (omega (arith, h))))
      (λ g. subst Ends (run_stop k s i inside g) (λ l. g)))
      (λ p l. absurd (omega (arith, l, ltb-false i (length s) p, run_out k s i (ltb-false i (length s) p))))

  pub run_ends : (i : ℕ) → Ends (run_at k s i)
  run_ends i = ends_by (length s) i (omega arith)

module _ (s : List ℕ) where
  word_ends : (i : ℕ) → ends_word s (run_at Run.Word s i) ≡ true
  word_ends i =
      split (ltb (run_at Run.Word s i) (length s))
      (λ p. let l = ltb-true (run_at Run.Word s i) (length s) p in sym (ends_byte s (run_at Run.Word s i) l) ∙ ap not (run_ends Run.Word s i l))
      (λ p. sym (ends_file s (run_at Run.Word s i) (ltb-false (run_at Run.Word s i) (length s) p)))

  -- what is known of a token that is a word
  pub record Word (at : ℕ) (t : Step) : Type 0 where
    pub starts : t.start ≡ start_of s at
    pub ends : ends_word s t.next.at ≡ true

  abbrev Words : ℕ → Step → Type 0
  Words at t = t.token ≡ Token.Word → Word at t

  abbrev starts_word : Token → Bool
  starts_word Token.Left = false
  starts_word Token.Right = false
  starts_word Token.Text = false
  starts_word Token.Word = true
  starts_word Token.Unclosed = false
  starts_word Token.End = false

  no_word : (at : ℕ) (t : Step) → starts_word t.token ≡ false → Words at t
  no_word at t n e = differ (starts_word t.token) (ap starts_word e) n

  text_words : (at i e : ℕ) → Words at (text_to s i e)
  unfolding text_to
  text_words at i e =
      split (ltb e (length s)) (λ p. rw (p, text_to) (no_word at (step_of Token.Text i (e + 1)) refl)) (λ p. rw (p, text_to) (no_word at (step_of Token.Unclosed i e) refl))

  class_words : (at : ℕ) → start_of s at < length s → (c : Class) → c ≡ class_of (get_or s (start_of s at) 0) → Words at (token_of c s (start_of s at))
  unfolding token_of
  class_words at l Class.Blank c = λ e. absurd (false≢true (sym (run_ends Run.Blanks s at l) ∙ ap (λ k. goes_on Run.Blanks k) (sym c)))
  class_words at l Class.Left c = no_word at (step_of Token.Left (start_of s at) (start_of s at + 1)) refl
  class_words at l Class.Right c = no_word at (step_of Token.Right (start_of s at) (start_of s at + 1)) refl
  class_words at l Class.Quote c = text_words at (start_of s at) (run_at Run.Text s (start_of s at + 1))
  class_words at l Class.Other c = λ e. record { starts = refl; ends = word_ends (start_of s at + 1) }

  pub word_token : (at : ℕ) (t : Step) → t ≡ token_at s at → t.token ≡ Token.Word → Word at t
  word_token at t e =
      subst (Words at) (sym e)
      (split (ltb (start_of s at) (length s))
      (λ p. let l = ltb-true (start_of s at) (length s) p in subst (Words at) (token_is s (start_of s at) at refl (class_of (get_or s (start_of s at) 0)) l refl) (class_words at l (class_of (get_or s (start_of s at) 0)) refl))
      (λ p. subst (Words at) (token_end s (start_of s at) at refl (ltb-false (start_of s at) (length s) p)) (no_word at (step_of Token.End (length s) (length s)) refl)))

  -- the byte behind a word is none that could stand in it
  pub ended_low : (n : ℕ) → ends_word s n ≡ true → n < length s → get_or s n 0 < 42
  ended_low n e l =
      split (leb 42 (get_or s n 0))
      (λ p. absurd (false≢true (sym (ap not (word_byte (get_or s n 0) (leb-true 42 (get_or s n 0) p))) ∙ ends_byte s n l ∙ e)))
      (λ p. leb-false 42 (get_or s n 0) p)

  behind_by : (n i : ℕ) → length s ≤ i + n → i ≤ start_of s i
  behind_by zero i h = omega (arith, run_out Run.Blanks s i (omega (arith, h)))
  behind_by (suc n) i h =
      split (ltb i (length s))
      (λ p. let l = ltb-true i (length s) p in
      split (goes_on Run.Blanks (class_of (get_or s i 0)))
      (λ g. omega (arith, run_more Run.Blanks s i l g, behind_by n (i + 1) (omega (arith, h))))
      (λ g. omega (arith, run_stop Run.Blanks s i l g)))
      (λ p. omega (arith, run_out Run.Blanks s i (ltb-false i (length s) p)))

  pub start_behind : (at : ℕ) → at ≤ start_of s at
  start_behind at = behind_by (length s) at (omega arith)
