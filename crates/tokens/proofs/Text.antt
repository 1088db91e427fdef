-- A file's tokens by position are exactly those of the relation, which knows no cursor. Assumes nothing.
use Prim.Native.Nat.{ℕ, suc, ◌+◌, ◌-◌, ◌≤◌, ◌<◌}
use native.Mathlib.Omega.{arith}
use native.Mathlib.Numerals.{add-one}
use mathlib.Core.Path.{◌≡◌, refl, sym, ◌∙◌, ap}
use mathlib.Core.List.{List, [], ◌∷◌, ◌++◌, append-nil, append_assoc, head-eq_of_cons-eq, tail-eq_of_cons-eq}
use mathlib.Core.Bool.{false}
use mathlib.Core.Logic.{◌↔◌}
use lib.ListN.{length, take, drop, get_or, length-append, length-drop}
use lib.Seq.{drop-cons, take-append_seam}
use Rattle.tokens.specs.declared.Class.{Class}
use Rattle.tokens.specs.declared.Run.{Run}
use Rattle.tokens.specs.declared.Token.{Token}
use Rattle.tokens.specs.declared.Step.{Step}
use Rattle.tokens.specs.Tokens.{class_of, goes_on, run_at, step_of, token_of, token_from, token_at}
use Rattle.tokens.specs.Listed.{Tok, left, right, text, cut, word, step_then, tokens_from, tokens_of}
use Rattle.tokens.specs.Text.{Goes, Stops, Text, nothing, blank, opened, shut, string, unclosed, a_word}
use Rattle.tokens.proofs.Laws.{run_more, run_stop, run_out, token_is, token_end, text_closed, text_unclosed}
use Rattle.tokens.proofs.Listed.{tokens_step}
use Rattle.tokens.proofs.Runs.{run_at_lem, rest_at, length_at}
use Rattle.tokens.proofs.TextOf.{text_of}

module _ (s : List ℕ) where
  tokens_as : (i : ℕ) (t : Step) → t ≡ token_at s i → tokens_from s i ≡ step_then t s (tokens_from s t.next.at)
  tokens_as i t e = tokens_step s i ∙ ap (λ u. step_then u s (tokens_from s u.next.at)) (sym e)

  -- the byte b stands at i, and r behind it
  record Stands (i b : ℕ) (r : List ℕ) : Type 0 where
    pub within : i < length s
    pub byte : get_or s i 0 ≡ b
    pub behind : drop (suc i) s ≡ r

  stands : (i b : ℕ) (r : List ℕ) → b ∷ r ≡ drop i s → i ≤ length s → Stands i b r
  stands i b r e l =
      let h : i < length s = omega (arith, length-drop i s, ap length e) in
      let d = e ∙ drop-cons s i 0 h in
      record { within = h; byte = sym (head-eq_of_cons-eq d); behind = sym (tail-eq_of_cons-eq d) }

  module _ (i b : ℕ) (r : List ℕ) (h : Stands i b r) where
    token_here : (c : Class) → class_of b ≡ c → goes_on Run.Blanks c ≡ false → token_of c s i ≡ token_at s i
    token_here c e g =
        let q : c ≡ class_of (get_or s i 0) = rw h.byte (sym e) in
        token_is s i i (run_stop Run.Blanks s i h.within (rw (← q) g)) c h.within q

    blank_next : class_of b ≡ Class.Blank → token_at s (suc i) ≡ token_at s i
    unfolding token_at
    blank_next c = ap (λ j. token_from s j) (rw add-one at (run_more Run.Blanks s i h.within (rw (h.byte, c))))

    blank_is : {ts : List Tok} → class_of b ≡ Class.Blank → tokens_from s (suc i) ≡ ts → tokens_from s i ≡ ts
    blank_is c t = tokens_as i _ (blank_next c) ∙ (sym (tokens_step s (suc i)) ∙ t)

    opened_is : {ts : List Tok} → class_of b ≡ Class.Left → tokens_from s (suc i) ≡ ts → tokens_from s i ≡ left i ∷ ts
    unfolding token_of
    opened_is c t = tokens_as i _ (token_here Class.Left c refl) ∙ rw (add-one, t)

    shut_is : {ts : List Tok} → class_of b ≡ Class.Right → tokens_from s (suc i) ≡ ts → tokens_from s i ≡ right i ∷ ts
    unfolding token_of
    shut_is c t = tokens_as i _ (token_here Class.Right c refl) ∙ rw (add-one, t)

    module _ (k : Run) (w rest : List ℕ) (g : Goes k w) (d : Stops k rest) (e : r ≡ w ++ rest) where
      run_here : suc i + length w ≡ run_at k s (i + 1)
      run_here = rw add-one (sym (run_at_lem s (suc i) w rest (h.behind ∙ e) k g d))

      run_length : suc i + length w + length rest ≡ length s
      run_length = length_at s (suc i) w rest (h.behind ∙ e) h.within

    unclosed_is : (w : List ℕ) → class_of b ≡ Class.Quote → Goes Run.Text w → r ≡ w → tokens_from s i ≡ cut i ∷ []
    unclosed_is w c g e =
        let q = e ∙ sym (append-nil w) in
        let z = run_length Run.Text w [] g tt q in
        tokens_as i _ (text_unclosed s i (suc i + length w) (run_here Run.Text w [] g tt q) (omega arith) ∙ token_here Class.Quote c refl)

    string_is : (x : ℕ) (w rest : List ℕ) {ts : List Tok} → class_of b ≡ Class.Quote → Goes Run.Text w → class_of x ≡ Class.Quote → r ≡ w ++ (x ∷ rest)
        → tokens_from s (suc (suc i + length w)) ≡ ts → tokens_from s i ≡ text i ∷ ts
    string_is x w rest c g d e t =
        let f : Stops Run.Text (x ∷ rest) = rw d in
        let z = run_length Run.Text w (x ∷ rest) g f e in
        let u = text_closed s i (suc i + length w) (run_here Run.Text w (x ∷ rest) g f e) (omega arith) in
        tokens_as i _ (u ∙ token_here Class.Quote c refl) ∙ rw (add-one, t)

    word_is : (w rest : List ℕ) {ts : List Tok} → class_of b ≡ Class.Other → Goes Run.Word w → Stops Run.Word rest → r ≡ w ++ rest
        → tokens_from s (suc i + length w) ≡ ts → tokens_from s i ≡ word i (b ∷ w) ∷ ts
    unfolding token_of
    word_is w rest c g d e t =
        let n : suc i + length w - i ≡ suc (length w) = omega arith in
        let a : take (length w) (drop (suc i) s) ≡ w = rw (h.behind, e) (take-append_seam w rest) in
        tokens_as i _ (ap (step_of Token.Word i) (run_here Run.Word w rest g d e) ∙ token_here Class.Other c refl)
        ∙ rw (n, drop-cons s i 0 h.within, a, h.byte, t)

  next_at : (i : ℕ) (r w rest : List ℕ) → drop (suc i) s ≡ r → r ≡ w ++ rest → rest ≡ drop (suc i + length w) s
  next_at i r w rest a e = sym (rest_at s (suc i) w rest (a ∙ e))

  text_is : {i : ℕ} {r : List ℕ} {ts : List Tok} → Text i r ts → r ≡ drop i s → i ≤ length s → tokens_from s i ≡ ts
  text_is (nothing {i = i}) q l =
      let z : length s ≤ i = omega (arith, length-drop i s, ap length q) in
      tokens_as i _ (token_end s i i (run_out Run.Blanks s i z) z)
  text_is (blank {i = i} {b = b} {r = r} c t) q l = let h = stands i b r q l in blank_is i b r h c (text_is t (sym h.behind) h.within)
  text_is (opened {i = i} {b = b} {r = r} c t) q l = let h = stands i b r q l in opened_is i b r h c (text_is t (sym h.behind) h.within)
  text_is (shut {i = i} {b = b} {r = r} c t) q l = let h = stands i b r q l in shut_is i b r h c (text_is t (sym h.behind) h.within)
  text_is (string {i = i} {b = b} {r = r} {rest = rest} x w c g d e m t) q l =
      let h = stands i b r q l in
      let f : Stops Run.Text (x ∷ rest) = rw d in
      let z = run_length i b r h Run.Text w (x ∷ rest) g f e in
      let k : suc i + length (w ++ (x ∷ [])) ≡ suc (suc i + length w) = omega (arith, length-append w (x ∷ [])) in
      let a = next_at i r (w ++ (x ∷ [])) rest h.behind (e ∙ sym (append_assoc w (x ∷ []) rest)) in
      string_is i b r h x w rest c g d e (rw m at (text_is t (rw (m, ← k) a) (omega arith)))
  text_is (unclosed {i = i} {b = b} {w = w} c g) q l = unclosed_is i b w (stands i b w q l) w c g refl
  text_is (a_word {i = i} {b = b} {r = r} {rest = rest} w c g d e m t) q l =
      let h = stands i b r q l in
      let z = run_length i b r h Run.Word w rest g d e in
      word_is i b r h w rest c g d e (rw m at (text_is t (rw m (next_at i r w rest h.behind e)) (omega arith)))

pub text_exactly : (s : List ℕ) (ts : List Tok) → (tokens_of s ≡ ts) ↔ Text 0 s ts
text_exactly s ts = (λ e. rw e at (text_of s), λ t. text_is s t refl (omega arith))
