-- Laws of the definitions of specs/Tokens: a run of bytes step by step, and the token at a place by its class. Assumes nothing.
use Prim.Native.Nat.{ℕ, ◌+◌, ◌≤◌, ◌<◌}
use mathlib.Core.Path.{◌≡◌}
use mathlib.Core.List.{List}
use mathlib.Core.Bool.{true, false, not}
use native.Mathlib.Numerals.{add-one}
use borrow.Author.Tests.{lt-ltb, le-ltb}
use lib.ListN.{length, get_or, drop_of_length-le}
use lib.Seq.{drop-cons}
use Rattle.tokens.specs.declared.Class.{Class}
use Rattle.tokens.specs.declared.Run.{Run}
use Rattle.tokens.specs.declared.Token.{Token}
use Rattle.tokens.specs.Tokens.{class_of, goes_on, run_end, run_at, ends_word, step_of, text_to, token_of, token_from, token_at}

module _ (k : Run) (s : List ℕ) (i : ℕ) where
  pub run_more : i < length s → goes_on k (class_of (get_or s i 0)) ≡ true → run_at k s (i + 1) ≡ run_at k s i
  unfolding run_end run_at
  run_more h t = rw (drop-cons s i 0 h, add-one, t, run_end)

  pub run_stop : i < length s → goes_on k (class_of (get_or s i 0)) ≡ false → i ≡ run_at k s i
  unfolding run_end run_at
  run_stop h t = rw (drop-cons s i 0 h, t, run_end)

  pub run_out : length s ≤ i → i ≡ run_at k s i
  unfolding run_end run_at
  run_out h = rw (drop_of_length-le s h)

module _ (s : List ℕ) (i : ℕ) where
  pub ends_byte : i < length s → not (goes_on Run.Word (class_of (get_or s i 0))) ≡ ends_word s i
  unfolding ends_word
  ends_byte h = rw (lt-ltb i (length s) h, ends_word)

  pub ends_file : length s ≤ i → true ≡ ends_word s i
  unfolding ends_word
  ends_file h = rw (le-ltb i (length s) h, ends_word)

  from_is : (k : Class) → i < length s → k ≡ class_of (get_or s i 0) → token_of k s i ≡ token_from s i
  unfolding token_from
  from_is k h q = rw (lt-ltb i (length s) h, token_from, q)

  from_end : length s ≤ i → step_of Token.End (length s) (length s) ≡ token_from s i
  unfolding token_from
  from_end h = rw (le-ltb i (length s) h, token_from)

  -- the blanks from `at` on end at i
  module _ (at : ℕ) (b : i ≡ run_at Run.Blanks s at) where
    pub token_is : (k : Class) → i < length s → k ≡ class_of (get_or s i 0) → token_of k s i ≡ token_at s at
    unfolding token_at
    token_is k h q = rw (← b) (from_is k h q)

    pub token_end : length s ≤ i → step_of Token.End (length s) (length s) ≡ token_at s at
    unfolding token_at
    token_end h = rw (← b) (from_end h)

  to_closed : (e : ℕ) → e < length s → step_of Token.Text i (e + 1) ≡ text_to s i e
  unfolding text_to
  to_closed e h = rw (lt-ltb e (length s) h, text_to)

  to_unclosed : (e : ℕ) → length s ≤ e → step_of Token.Unclosed i e ≡ text_to s i e
  unfolding text_to
  to_unclosed e h = rw (le-ltb e (length s) h, text_to)

  -- the string's bytes end at e
  module _ (e : ℕ) (t : e ≡ run_at Run.Text s (i + 1)) where
    pub text_closed : e < length s → step_of Token.Text i (e + 1) ≡ token_of Class.Quote s i
    unfolding token_of
    text_closed h = rw (← t) (to_closed e h)

    pub text_unclosed : length s ≤ e → step_of Token.Unclosed i e ≡ token_of Class.Quote s i
    unfolding token_of
    text_unclosed h = rw (← t) (to_unclosed e h)
