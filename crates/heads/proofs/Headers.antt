-- A header's fifth word, which may be absent: what the code owes at each end. Assumes nothing.
use Rattle.std.specs.Prelude.{Option, Some, None, Result, Ok, Err}
use Prim.Native.Nat.{ℕ, ◌≤◌}
use native.Mathlib.Omega.{arith}
use mathlib.Core.Path.{◌≡◌, refl, sym, ◌∙◌, ap}
use mathlib.Core.List.{List}
use mathlib.Core.Bool.{Bool, true, false, ◌&&◌}
use lib.ListN.{length}
use Rattle.facts.specs.declared.Taken.{Taken}
use Rattle.tokens.specs.declared.Token.{Token}
use Rattle.tokens.specs.declared.Step.{Step}
use Rattle.tokens.specs.Tokens.{token_at}
use Rattle.tokens.specs.Listed.{tokens_from}
use Rattle.tokens.proofs.Listed.{tokens_kind}
use Rattle.layout.specs.Reading.{Got, Reader, next, hex_word}
use Rattle.layout.specs.Sections as S
use Rattle.layout.specs.Sections.{starts_right, fifth_of}
use Rattle.spots.specs.declared.Bad.{Bad}
use Rattle.spots.specs.declared.Head.{Head}
use Rattle.spots.specs.declared.Read.{Read}
use Rattle.spots.specs.Heads.{word_of, place_of, head_for}
use Rattle.spots.specs.Pasts.{taken_view, TakenAt}
use Rattle.steps.specs.Views.{NumAt}
use Rattle.steps.proofs.Chain.{taken_no, taken_to, taken_ahead, later}
use Rattle.heads.specs.Heads.{word_for, FifthAt}

-- ---- is it a `)`
abbrev is_the : Token → Bool
is_the Token.Left = false
is_the Token.Right = true
is_the Token.Text = false
is_the Token.Word = false
is_the Token.Unclosed = false
is_the Token.End = false

module _ (s : List ℕ) (at : ℕ) (t : Step) (e : t ≡ token_at s at) where
  pub right_is : (k : Token) → t.token ≡ k → is_the k ≡ starts_right (tokens_from s at)
  right_is Token.Left q = rw (tokens_kind s at t Token.Left e q)
  right_is Token.Right q = rw (tokens_kind s at t Token.Right e q)
  right_is Token.Text q = rw (tokens_kind s at t Token.Text e q)
  right_is Token.Word q = rw (tokens_kind s at t Token.Word e q)
  right_is Token.Unclosed q = rw (tokens_kind s at t Token.Unclosed e q)
  right_is Token.End q = rw (tokens_kind s at t Token.End e q)

  pub right_not : (t.token ≡ Token.Right → ⊥) → false ≡ starts_right (tokens_from s at)
  right_not n = none t.token refl ∙ right_is t.token refl
    where
      none : (k : Token) → t.token ≡ k → false ≡ is_the k
      none Token.Left q = refl
      none Token.Right q = absurd (n q)
      none Token.Text q = refl
      none Token.Word q = refl
      none Token.Unclosed q = refl
      none Token.End q = refl

-- ---- the fifth word
abbrev word_at : Option Read → ℕ → Result (Taken (Option Read)) Bad
word_at v n = Ok (record { value = v; next = n })

module _ (s : List ℕ) (at : ℕ) (optional b : Bool) (e : b ≡ (optional && starts_right (tokens_from s at))) where
  pub fifth_absent : b ≡ true → FifthAt s at (word_at None at) (fifth_of (length s) optional (tokens_from s at))
  unfolding fifth_of
  fifth_absent q = record { says = rw (sym e ∙ q, fifth_of); from = omega arith }

  module _ (q : b ≡ false) {r : Result (Taken Read) Bad} (h : NumAt s at r (hex_word (length s) (tokens_from s at))) where
    pub fifth_bad : (d : Bad) → r ≡ Err d → FifthAt s at (Err d) (fifth_of (length s) optional (tokens_from s at))
    unfolding fifth_of
    fifth_bad d z = record { says = rw (sym e ∙ q, fifth_of) (taken_no s at _ h d z); from = tt }

    pub fifth_given : (t : Taken Read) → r ≡ Ok t → FifthAt s at (word_at (Some t.value) t.next) (fifth_of (length s) optional (tokens_from s at))
    unfolding fifth_of
    fifth_given t z = record { says = rw (sym e ∙ q, fifth_of) (taken_to s at _ h t z); from = omega (arith, taken_ahead s at t h z) }

-- a header with the fifth word and its place as they were read
abbrev whole : Read → Read → Read → Read → Option ℕ → ℕ → ℕ → Head
whole z f l t w p e = record { zone = z; first = f; last = l; ztype = t; fifth = w; place = p; end = e }

pub head_with : (z f l t : Read) (e : ℕ) {w : Option ℕ} {p : ℕ} (v : Option Read) → w ≡ word_of v → p ≡ place_of v
    → head_for (whole z f l t w p e) ≡ head_for (whole z f l t (word_of v) (place_of v) e)
head_with z f l t e {w} {p} v r q = ap (λ y. head_for (whole z f l t y p e)) r ∙ ap (λ y. head_for (whole z f l t (word_of v) y e)) q

-- ---- any reader behind a fifth word
module _ {U C : Type 0} (w : U → C) (s : List ℕ) (at : ℕ) {g : Got S.Word} {r : Result (Taken (Option Read)) Bad} (f : S.Word → Reader C) (h : FifthAt s at r g) where
  pub fifth_no : (b : Bad) → r ≡ Err b → TakenAt w s at (Err b) (next g f)
  fifth_no b q = record { says = ap (λ y. next y f) (ap (taken_view word_for s) (sym q) ∙ h.says); ahead = tt }

  pub fifth_to : (t : Taken (Option Read)) → r ≡ Ok t → {y : Result (Taken U) Bad} → TakenAt w s t.next y (f (word_for t.value) (tokens_from s t.next)) → TakenAt w s at y (next g f)
  fifth_to t q {y = y} k =
      let l : at ≤ t.next = rw q at h.from in
      record { says = k.says ∙ ap (λ y. next y f) (ap (taken_view word_for s) (sym q) ∙ h.says); ahead = later w s at t.next y l k.ahead }
