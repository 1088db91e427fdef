-- One token taken, and then the others. Assumes nothing.
use Rattle.std.specs.Prelude.{Option, Some, None}
use Prim.Native.Nat.{ℕ, ◌+◌, ◌-◌, ◌≤◌}
use native.Mathlib.Omega.{arith}
use native.Mathlib.Numerals.{add-one}
use mathlib.Core.Path.{◌≡◌, refl, sym, ap, subst, ◌∙◌}
use mathlib.Core.Logic.{◌⊎◌, inl, inr}
use mathlib.Core.List.{List, []}
use lib.Dec.{T}
use lib.ListN.{length, take, drop, set, length-set}
use lib.Seq.{sets}
use Rattle.facts.specs.declared.Taken.{Taken}
use Rattle.tokens.specs.declared.Token.{Token}
use Rattle.tokens.specs.declared.Step.{Step}
use Rattle.tokens.specs.Tokens.{token_at}
use Rattle.tokens.specs.Listed.{tok_then, tokens_from}
use Rattle.tokens.proofs.Bounds.{solid, Moved}
use Rattle.tokens.proofs.Listed.{tokens_kind, moved}
use Rattle.numbers.specs.Whole.{hexadecimal_of}
use Rattle.casewords.specs.Numbers.{with_number, numbers_in, Next}

module _ (s : List ℕ) (at : ℕ) (t : Step) (e : t ≡ token_at s at) where
  pub word_moves : t.token ≡ Token.Word → Moved at (length s) t
  word_moves q = moved s at t Token.Word e q tt

  turn : (k : Token) → t.token ≡ k → T (solid k) → (v : Option ℕ)
      → numbers_in (tok_then k s t.start t.next.at (tokens_from s t.next.at)) ≡ with_number v (numbers_in (tokens_from s t.next.at)) → Next s at (Some (record { value = v; next = t.next.at }))
  turn k q g v z = let m = moved s at t k e q g in (ap numbers_in (tokens_kind s at t k e q) ∙ z, omega arith, omega arith)

  pub turn_word : t.token ≡ Token.Word → (v : Option ℕ) → v ≡ hexadecimal_of (take (t.next.at - t.start) (drop t.start s)) → Next s at (Some (record { value = v; next = t.next.at }))
  unfolding numbers_in
  turn_word q v z = turn Token.Word q tt v (ap (λ y. with_number y (numbers_in (tokens_from s t.next.at))) (sym z))

  pub turn_other : (t.token ≡ Token.Left) ⊎ ((t.token ≡ Token.Right) ⊎ (t.token ≡ Token.Text)) → Next s at (Some (record { value = None; next = t.next.at }))
  unfolding numbers_in
  turn_other (inl q) = turn Token.Left q tt None refl
  turn_other (inr (inl q)) = turn Token.Right q tt None refl
  turn_other (inr (inr q)) = turn Token.Text q tt None refl

  pub turn_none : (t.token ≡ Token.End) ⊎ (t.token ≡ Token.Unclosed) → Next s at None
  unfolding numbers_in
  turn_none (inl q) = ap numbers_in (tokens_kind s at t Token.End e q)
  turn_none (inr q) = ap numbers_in (tokens_kind s at t Token.Unclosed e q)

-- ---- the numbers so far stand in the slice, and those that are left come behind them
pub record Counting (s old words : List ℕ) (count at : ℕ) : Type 0 where
  pub same : sets words count (numbers_in (tokens_from s at)) ≡ sets old 0 (numbers_in (tokens_from s 0))
  pub all : count + length (numbers_in (tokens_from s at)) ≡ length (numbers_in (tokens_from s 0))
  pub few : count ≤ at
  pub within : at ≤ length s
  pub long : length words ≡ length old

module _ (s old words : List ℕ) (count at : ℕ) (g : Counting s old words count at) where
  module _ (t : Taken (Option ℕ)) {r : Option (Taken (Option ℕ))} (n : Next s at r) (e : r ≡ Some t) where
    next : Next s at (Some t)
    next = subst (Next s at) e n

    behind : (v : Option ℕ) → t.value ≡ v → numbers_in (tokens_from s at) ≡ with_number v (numbers_in (tokens_from s t.next))
    behind v q = next.0 ∙ ap (λ y. with_number y (numbers_in (tokens_from s t.next))) q

    pub counting_none : t.value ≡ None → Counting s old words count t.next
    counting_none q =
        let b = behind None q in
        record {
          same = ap (sets words count) (sym b) ∙ g.same;
          all = ap (λ l. count + length l) (sym b) ∙ g.all;
          few = omega (arith, g.few, next.1);
          within = next.2;
          long = g.long;
        }

    pub counting_some : (v : ℕ) → t.value ≡ Some v → Counting s old (set words count v) (count + 1) t.next
    counting_some v q =
        let b = behind (Some v) q in
        record {
          same = ap (λ k. sets (set words count v) k (numbers_in (tokens_from s t.next))) (add-one count) ∙ ap (sets words count) (sym b) ∙ g.same;
          all = omega (arith, g.all, ap length b);
          few = omega (arith, g.few, next.1);
          within = next.2;
          long = length-set words count v ∙ g.long;
        }

  pub counting_end : {r : Option (Taken (Option ℕ))} → Next s at r → r ≡ None
      → (words ≡ sets old 0 (numbers_in (tokens_from s 0))) × (count ≡ length (numbers_in (tokens_from s 0)))
  counting_end n e =
      let z : numbers_in (tokens_from s at) ≡ [] = subst (Next s at) e n in
      (ap (sets words count) (sym z) ∙ g.same, omega (arith, g.all, ap length z))
