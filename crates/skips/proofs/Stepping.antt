-- Stepping over a section, token by token. Assumes nothing.
use Rattle.spots.specs.declared.Bad.{Bad}
use Rattle.std.specs.Prelude.{Result, Ok, Err}
use Prim.Native.Nat.{ℕ, zero, suc, ◌+◌, ◌-◌, ◌≤◌, ◌<◌}
use native.Mathlib.Numerals.{add-one}
use native.Mathlib.Omega.{arith}
use mathlib.Core.Path.{◌≡◌, refl, sym, ◌∙◌, ap}
use mathlib.Core.List.{List, ◌∷◌}
use borrow.Author.Tests.{lt-ltb, le-ltb}
use lib.Dec.{T}
use lib.ListN.{length}
use Rattle.sizes.specs.Sizes.{depth}
use Rattle.tokens.specs.declared.Token.{Token}
use Rattle.tokens.specs.declared.Step.{Step}
use Rattle.tokens.specs.Tokens.{mark_of, token_at}
use Rattle.tokens.specs.Listed.{right, tok_then, tokens_from}
use Rattle.tokens.proofs.Bounds.{solid}
use Rattle.tokens.proofs.Listed.{tokens_kind, moved, ended}
use Rattle.tokens.proofs.Marks.{marks_on, mark_behind}
use Rattle.layout.specs.declared.Refusal.{Refusal}
use Rattle.layout.specs.Reading.{skip}
use Rattle.spots.specs.Pasts.{past_view, PastAt}

-- what is left to step over from c, d parentheses deep, is what there was
pub record Left (s : List ℕ) (at c d : ℕ) : Type 0 where
  pub from : at ≤ c
  pub deep : d < depth
  pub same : skip (length s) d (tokens_from s c) ≡ skip (length s) 0 (tokens_from s at)

pub mark_ahead : (s : List ℕ) (c m : ℕ) → m ≡ mark_of s c → c ≤ m
mark_ahead s c m e = omega (arith, e, mark_behind s {A = ℕ} (λ ts. 0) (λ o w ts. refl) c)

-- blanks and words are stepped over at once
pub skip_on : (s : List ℕ) (at c d m : ℕ) → Left s at c d → m ≡ mark_of s c → Left s at m d
unfolding skip
skip_on s at c d m h e =
    let f = skip (length s) d in
    record {
      from = omega (arith, h.from, mark_behind s f (λ o w ts. refl) c, e);
      deep = h.deep;
      same = ap (λ k. f (tokens_from s k)) e ∙ sym (marks_on s f (λ o w ts. refl) c) ∙ h.same;
    }

module _ (s : List ℕ) (at c d : ℕ) (h : Left s at c d) (t : Step) (e : t ≡ token_at s c) where
  went : (k : Token) → T (solid k) → t.token ≡ k → (f : ℕ) → f < depth
      → skip (length s) d (tok_then k s t.start t.next.at (tokens_from s t.next.at)) ≡ skip (length s) f (tokens_from s t.next.at) → Left s at t.next.at f
  went k g q f m p =
      let v = moved s c t k e q g in
      record { from = omega (arith, h.from); deep = m; same = sym p ∙ ap (skip (length s) d) (sym (tokens_kind s c t k e q)) ∙ h.same }

  stays : (k : Token) → t.token ≡ k → (r : Result ℕ Bad) → past_view s r ≡ skip (length s) d (tok_then k s t.start t.next.at (tokens_from s t.next.at))
      → past_view s r ≡ skip (length s) 0 (tokens_from s at)
  stays k q r p = p ∙ ap (skip (length s) d) (sym (tokens_kind s c t k e q)) ∙ h.same

  abbrev Answers : Result ℕ Bad → Type 0
  Answers r = PastAt s at r (skip (length s) 0 (tokens_from s at))

  pub skip_open : t.token ≡ Token.Left → d + 1 < depth → Left s at t.next.at (d + 1)
  unfolding skip
  skip_open q l = went Token.Left tt q (d + 1) l (rw (lt-ltb (suc d) depth (omega arith), add-one, skip))

  pub skip_deep : t.token ≡ Token.Left → depth ≤ d + 1 → Answers (Err (record { why = Refusal.Depth; offset = t.start }))
  unfolding skip
  skip_deep q l = record { says = stays Token.Left q (Err (record { why = Refusal.Depth; offset = t.start })) (rw (le-ltb (suc d) depth (omega arith), skip)); ahead = tt }

  pub skip_last : t.token ≡ Token.Right → d ≡ 0 → Answers (Ok t.next.at)
  unfolding skip
  skip_last q z = let v = moved s c t Token.Right e q tt in record { says = stays Token.Right q (Ok t.next.at) (rw z); ahead = omega (arith, h.from) }

  pub skip_close : t.token ≡ Token.Right → (d ≡ 0 → ⊥) → Left s at t.next.at (d - 1)
  unfolding skip
  skip_close q n = went Token.Right tt q (d - 1) (omega (arith, h.deep)) (closes d n)
    where
      closes : (f : ℕ) → (f ≡ 0 → ⊥) → skip (length s) f (right t.start ∷ tokens_from s t.next.at) ≡ skip (length s) (f - 1) (tokens_from s t.next.at)
      closes zero m = absurd (m refl)
      closes (suc f) m = let z : suc f - 1 ≡ f = omega arith in rw z

  pub skip_text : t.token ≡ Token.Text → Left s at t.next.at d
  unfolding skip
  skip_text q = went Token.Text tt q d h.deep refl

  pub skip_end : t.token ≡ Token.End → Answers (Err (record { why = Refusal.Grammar; offset = t.start }))
  unfolding skip
  skip_end q = record { says = stays Token.End q (Err (record { why = Refusal.Grammar; offset = t.start })) (rw (ended s c t e q)); ahead = tt }

  pub skip_cut : t.token ≡ Token.Unclosed → Answers (Err (record { why = Refusal.Grammar; offset = t.start }))
  unfolding skip
  skip_cut q = record { says = stays Token.Unclosed q (Err (record { why = Refusal.Grammar; offset = t.start })) refl; ahead = tt }
