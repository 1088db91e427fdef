-- A word of one decimal digit behind one blank: it is the token there, and its digit is the number. Assumes nothing.
use Rattle.std.specs.Prelude.{Some}
use Prim.Native.Nat.{ℕ, ◌+◌, ◌-◌, ◌*◌, ◌≤◌}
use native.Mathlib.Omega.{arith}
use mathlib.Core.Path.{◌≡◌, refl, sym, ap, subst, ◌∙◌}
use mathlib.Core.List.{List, [], ◌∷◌}
use Rattle.std.specs.Prelude.{Option, Some, None}
use mathlib.Core.Bool.{Bool, true, false, ◌&&◌}
use borrow.Author.Tests.{leb-true}
use lib.Dec.{leb}
use lib.ListN.{length, take, drop, get_or}
use lib.Seq.{drop-cons}
use Rattle.facts.proofs.Branch.{split, differ}
use Rattle.facts.proofs.Decides.{and_split}
use Rattle.tokens.specs.declared.Token.{Token}
use Rattle.tokens.specs.Tokens.{is_blank, start_of, ends_word, step_of, token_at}
use Rattle.tokens.proofs.Runner.{start_next, word_found}
use Rattle.digits.specs.Digits.{within, digit_of}
use Rattle.digits.proofs.Digits.{within_is}
use Rattle.numbers.specs.Whole.{hexadecimal_of}
use Rattle.numbers.proofs.Wholes.{whole_of_exact}
use Rattle.facts.specs.declared.Taken.{Taken}
use Rattle.quick.specs.Quick.{known, figure_of, digit_hex, known_of}
use Rattle.quick.proofs.Figures.{figured}
use Rattle.quick.proofs.Knowing.{known_word}

abbrev pub is_quick : Option (Taken ℕ) → Bool
is_quick (Some k) = true
is_quick None = false

abbrev pub value_of : Option (Taken ℕ) → ℕ
value_of (Some k) = k.value
value_of None = 0

abbrev pub next_of : Option (Taken ℕ) → ℕ
next_of (Some k) = k.next
next_of None = 0

module _ (s : List ℕ) (at : ℕ) where
  abbrev byte : ℕ
  byte = get_or s (at + 1) 0

  -- the word there, and its number
  pub record Alone (v n : ℕ) : Type 0 where
    pub token : step_of Token.Word (at + 1) n ≡ token_at s at
    pub number : hexadecimal_of (take (n - (at + 1)) (drop (at + 1) s)) ≡ Some v

  module _ (l : at + 3 ≤ length s) (blank : is_blank (get_or s at 0) ≡ true) (ends : ends_word s (at + 2) ≡ true) (w : within 48 57 byte ≡ true) where
    starts : at + 1 ≡ start_of s at
    starts = start_next s at (omega (arith, l)) blank (omega (arith, within_is 48 57 byte w))

    token_there : step_of Token.Word (at + 1) (at + 2) ≡ token_at s at
    token_there =
        let one : at + 2 ≡ at + 1 + 1 = omega arith in
        let behind : start_of s at + 1 ≡ at + 2 = omega (arith, starts) in
        ap (λ k. step_of Token.Word (at + 1) k) one ∙ ap (λ i. step_of Token.Word i (i + 1)) starts
        ∙ word_found s at 1 (omega arith) (omega (arith, l, starts))
        (λ j h. let here : start_of s at + j ≡ at + 1 = omega (arith, h, starts) in subst (λ k. 42 ≤ get_or s k 0) (sym here) (omega (arith, within_is 48 57 byte w)))
        (ap (λ k. ends_word s k) behind ∙ ends)

    figure : digit_of byte ≡ byte - 48
    unfolding digit_of
    figure = rw (w, digit_of)

    alone : hexadecimal_of (byte ∷ []) ≡ Some (byte - 48)
    alone =
        let worth : 0 * 16 + digit_of byte ≡ byte - 48 = omega (arith, figure) in
        whole_of_exact 16 8 (byte ∷ []) (omega (arith, figure, within_is 48 57 byte w), tt) (omega arith) (omega arith) ∙ ap Some worth

    bytes : take (at + 2 - (at + 1)) (drop (at + 1) s) ≡ byte ∷ []
    bytes =
        let one : at + 2 - (at + 1) ≡ 1 = omega arith in
        ap (λ k. take k (drop (at + 1) s)) one ∙ ap (take 1) (drop-cons s (at + 1) 0 (omega (arith, l)))

    alone_there : Alone (byte - 48) (at + 2)
    alone_there = record { token = token_there; number = ap hexadecimal_of bytes ∙ alone }

  abbrev stands : Bool
  stands = leb (at + 3) (length s) && (is_blank (get_or s at 0) && ends_word s (at + 2))

  none : {A : Type 0} (v n : ℕ) → known v n ≡ None → A
  none v n e = differ true refl (ap is_quick e)

  pub digit_alone : (q : Option (Taken ℕ)) → q ≡ digit_hex s at → (v n : ℕ) → q ≡ known v n → Alone v n
  unfolding digit_hex
  digit_alone q f v n e =
      split stands
      (λ p. let first = and_split (leb (at + 3) (length s)) (is_blank (get_or s at 0) && ends_word s (at + 2)) p in
      let both = and_split (is_blank (get_or s at 0)) (ends_word s (at + 2)) first.1 in
      let found : known v n ≡ figure_of byte (at + 2) = sym e ∙ f ∙ rw (p, digit_hex) in
      split (within 48 57 byte)
      (λ w. let same : known v n ≡ known (byte - 48) (at + 2) = found ∙ ap (figured byte (at + 2)) w in
      let it = alone_there (leb-true (at + 3) (length s) first.0) both.0 both.1 w in
      subst (λ k. Alone v k) (sym (ap next_of same)) (subst (λ k. Alone k (at + 2)) (sym (ap value_of same)) it))
      (λ w. none v n (found ∙ ap (figured byte (at + 2)) w)))
      (λ p. none v n (sym e ∙ f ∙ rw (p, digit_hex)))

  -- its digits alone say the same
  pub digit_known : (q : Option (Taken ℕ)) → q ≡ digit_hex s at → (v n : ℕ) → q ≡ known v n → record { value = v; next = n } ≡ known_of s at
  digit_known q f v n e =
      let a = digit_alone q f v n e in
      sym (known_word s at (step_of Token.Word (at + 1) n) a.token refl v a.number)
