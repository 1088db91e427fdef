-- The tokens by position are those of the relation: tokens_of to Text. Assumes nothing.
use Prim.Native.Nat.{ℕ, zero, suc, ◌+◌, ◌-◌, ◌≤◌, ◌<◌}
use native.Mathlib.Omega.{arith}
use native.Mathlib.Numerals.{add-one}
use mathlib.Core.Path.{◌≡◌, refl, sym, ◌∙◌, ap}
use mathlib.Core.List.{List, [], ◌∷◌, ◌++◌, append-nil, append_assoc, head-eq_of_cons-eq}
use mathlib.Core.Bool.{true, false, false≢true}
use borrow.Author.Tests.{lt-ltb, le-ltb}
use lib.ListN.{length, take, drop, get_or, length-append}
use lib.Seq.{drop-cons, take-append_seam}
use Rattle.tokens.specs.declared.Class.{Class}
use Rattle.tokens.specs.declared.Run.{Run}
use Rattle.tokens.specs.declared.Token.{Token}
use Rattle.tokens.specs.declared.Step.{Step}
use Rattle.tokens.specs.Tokens.{class_of, goes_on, run_at, step_of, text_to, token_of, token_at}
use Rattle.tokens.specs.Listed.{Tok, step_then, tokens_in, tokens_from, tokens_of}
use Rattle.tokens.specs.Text.{Goes, Stops, Text, nothing, blank, opened, shut, string, unclosed, a_word}
use Rattle.tokens.proofs.Laws.{token_is, token_end}
use Rattle.tokens.proofs.Runs.{Part, part, run_at_lem, rest_at, length_at}

blanks : (w : List ℕ) {rest : List ℕ} {ts : List Tok} (i n : ℕ) → n ≡ i + length w → Goes Run.Blanks w → Text n rest ts → Text i (w ++ rest) ts
blanks [] i n e g t = let z : n ≡ i = omega arith in rw (← z) t
blanks (b ∷ w) i n e g t = blank (is_blank_lem (class_of b) g.0) (blanks w (suc i) n (omega arith) g.1 t)
  where
    is_blank_lem : (c : Class) → goes_on Run.Blanks c ≡ true → c ≡ Class.Blank
    is_blank_lem Class.Blank h = refl
    is_blank_lem Class.Left h = absurd (false≢true h)
    is_blank_lem Class.Right h = absurd (false≢true h)
    is_blank_lem Class.Quote h = absurd (false≢true h)
    is_blank_lem Class.Other h = absurd (false≢true h)

is_quote : (c : Class) → goes_on Run.Text c ≡ false → c ≡ Class.Quote
is_quote Class.Blank h = absurd (false≢true (sym h))
is_quote Class.Left h = absurd (false≢true (sym h))
is_quote Class.Right h = absurd (false≢true (sym h))
is_quote Class.Quote h = refl
is_quote Class.Other h = absurd (false≢true (sym h))

not_blank : (c : Class) → goes_on Run.Blanks c ≡ false → c ≡ Class.Blank → ⊥
not_blank c h e = let z : goes_on Run.Blanks Class.Blank ≡ false = rw e at h in false≢true (sym z)

module _ (s : List ℕ) where
  -- a token starts at i, and n turns are left behind it
  module _ (n i : ℕ) (more : (at : ℕ) → i < at → at ≤ length s → Text at (drop at s) (tokens_in n s at)) (h : i < length s) where
    abbrev Here : Step → Type 0
    Here t = Text i (get_or s i 0 ∷ drop (suc i) s) (step_then t s (tokens_in n s t.next.at))

    module _ (w rest : List ℕ) (e : drop (suc i) s ≡ w ++ rest) where
      behind : (m : ℕ) → m ≡ suc i + length w → Text m rest (tokens_in n s m)
      behind m q =
          let l = length_at s (suc i) w rest e (omega arith) in
          let z : drop m s ≡ rest = rw q (rest_at s (suc i) w rest e) in
          rw z at (more m (omega arith) (omega arith))

      word_here : class_of (get_or s i 0) ≡ Class.Other → Goes Run.Word w → Stops Run.Word rest
          → (m : ℕ) → m ≡ suc i + length w → Here (step_of Token.Word i m)
      word_here c g t m q =
          let l = length_at s (suc i) w rest e (omega arith) in
          let z : m - i ≡ suc (length w) = omega arith in
          let b : take (length w) (drop (suc i) s) ≡ w = rw e (take-append_seam w rest) in
          rw (z, drop-cons s i 0 h, b) (a_word w c g t e q (behind m q))

    text_here : (w rest : List ℕ) (e : drop (suc i) s ≡ w ++ rest) → class_of (get_or s i 0) ≡ Class.Quote → Goes Run.Text w → Stops Run.Text rest
        → (m : ℕ) → m ≡ suc i + length w → Here (text_to s i m)
    unfolding text_to
    text_here w [] e c g t m q =
        let l = length_at s (suc i) w [] e (omega arith) in
        rw (le-ltb m (length s) (omega arith), text_to) (unclosed {w = drop (suc i) s} c (rw (e, append-nil w) g))
    text_here w (b ∷ rest) e c g t m q =
        let l = length_at s (suc i) w (b ∷ rest) e (omega arith) in
        let d = e ∙ sym (append_assoc w (b ∷ []) rest) in
        rw (lt-ltb m (length s) (omega arith), text_to, add-one)
        (string b w c g (is_quote (class_of b) t) e (ap suc q) (behind (w ++ (b ∷ [])) rest d (suc m) (omega (arith, length-append w (b ∷ [])))))

    of_here : (c : Class) → class_of (get_or s i 0) ≡ c → (c ≡ Class.Blank → ⊥) → Here (token_of c s i)
    unfolding token_of
    of_here Class.Blank e x = absurd (x refl)
    of_here Class.Left e x = rw add-one (opened e (more (suc i) (omega arith) (omega arith)))
    of_here Class.Right e x = rw add-one (shut e (more (suc i) (omega arith) (omega arith)))
    of_here Class.Quote e x =
        let p = part Run.Text (drop (suc i) s) in
        let r = run_at_lem s (suc i) p.run p.rest p.split Run.Text p.goes p.stops in
        rw add-one (text_here p.run p.rest p.split e p.goes p.stops _ r)
    of_here Class.Other e x =
        let p = part Run.Word (drop (suc i) s) in
        let r = run_at_lem s (suc i) p.run p.rest p.split Run.Word p.goes p.stops in
        rw add-one (word_here p.run p.rest p.split e p.goes p.stops _ r)

  -- blanks from `at` on, or none, and then the token
  module _ (n at : ℕ) (l : at ≤ length s) (more : (m : ℕ) → at < m → m ≤ length s → Text m (drop m s) (tokens_in n s m)) where
    rest_here : (w rest : List ℕ) → drop at s ≡ w ++ rest → Stops Run.Blanks rest → (i : ℕ) → i ≡ at + length w → i ≡ run_at Run.Blanks s at
        → Text i rest (step_then (token_at s at) s (tokens_in n s (token_at s at).next.at))
    rest_here w [] e t i q b = let z = length_at s at w [] e l in rw (← token_end s i at b (omega arith)) nothing
    rest_here w (x ∷ r) e t i q b =
        let z = length_at s at w (x ∷ r) e l in
        let h : i < length s = omega arith in
        let d : x ∷ r ≡ get_or s i 0 ∷ drop (suc i) s = rw (← drop-cons s i 0 h, q) (sym (rest_at s at w (x ∷ r) e)) in
        rw (← token_is s i at b (class_of (get_or s i 0)) h refl, d)
        (of_here n i (λ m a c. more m (omega arith) c) h (class_of (get_or s i 0)) refl (not_blank _ (rw (head-eq_of_cons-eq d) at t)))

    here : (p : Part Run.Blanks (drop at s)) → Text at (drop at s) (step_then (token_at s at) s (tokens_in n s (token_at s at).next.at))
    here p =
        let b = run_at_lem s at p.run p.rest p.split Run.Blanks p.goes p.stops in
        rw p.split (blanks p.run at _ refl p.goes (rest_here p.run p.rest p.split p.stops _ refl (sym b)))

  text_in : (n at : ℕ) → length s - at < n → at ≤ length s → Text at (drop at s) (tokens_in n s at)
  unfolding tokens_in
  text_in zero at f l = absurd (omega arith)
  text_in (suc n) at f l = here n at l (λ m a c. text_in n m (omega arith) c) (part Run.Blanks (drop at s))

  pub text_of : Text 0 s (tokens_of s)
  unfolding tokens_from
  text_of = text_in (suc (length s)) 0 (omega arith) (omega arith)
