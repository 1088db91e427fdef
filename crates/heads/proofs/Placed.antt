-- A header that is read without a fifth word has 0 for that word's place. Assumes nothing.
use Rattle.std.specs.Prelude.{None, Ok}
use Prim.Native.Nat.{ℕ}
use mathlib.Core.Path.{◌≡◌, refl, sym, ap, subst}
use mathlib.Core.List.{List}
use mathlib.Core.Bool.{Bool, ◌&&◌}
use lib.ListN.{length}
use Rattle.facts.specs.declared.Taken.{Taken}
use Rattle.tokens.specs.Listed.{Tok, tokens_from}
use Rattle.layout.specs.Items as Items
use Rattle.layout.specs.Reading.{Got, got, bad, left_of, right_of, hex_word}
use Rattle.layout.specs.Sections as S
use Rattle.layout.specs.Sections.{starts_right, fifth_of, head_of}
use Rattle.layout.proofs.Answers.{Held, held, none, bind, fork}
use Rattle.spots.specs.declared.Head.{Head}
use Rattle.spots.specs.declared.Kind.{Kind}
use Rattle.spots.specs.Heads.{kind_for, fifth_for}
use Rattle.heads.specs.Heads.{HeadAt}

abbrev Placed : S.Head → List Tok → Type 0
Placed h us = h.fifth ≡ Items.absent → h.fifth_at ≡ 0

any : {A : Type 0} (g : Got A) → Held (λ a us. Unit) g
any (got a us) = held tt
any (bad w o) = none

module _ (size : ℕ) where
  fifth_placed : (b : Bool) (ts : List Tok) → Held (λ v us. v.word ≡ Items.absent → v.at ≡ 0) (fifth_of size b ts)
  unfolding fifth_of
  fifth_placed b ts = fork (b && starts_right ts) (λ e. held (λ q. refl)) λ e. bind (any (hex_word size ts)) λ r us p. held (λ q. absurd (cc))

  head_placed : (k : Items.Kind) (ts : List Tok) → Held Placed (head_of size k ts)
  unfolding head_of
  head_placed k ts =
      bind (any (left_of size ts)) λ _ t₀ _. bind (any (hex_word size t₀)) λ z t₁ _. bind (any (hex_word size t₁)) λ f t₂ _. bind (any (hex_word size t₂)) λ l t₃ _.
      bind (any (hex_word size t₃)) λ t t₄ _. bind (fifth_placed _ t₄) λ v t₅ p. bind (any (right_of size t₅)) λ e us _. held p

-- what is held of an answer that is no refusal
abbrev Says : Got S.Head → Type 0
Says (got h us) = Placed h us
Says (bad w o) = Unit

says : {g : Got S.Head} → Held Placed g → Says g
says (held p) = p
says none = tt

pub absent_placed_at_0 : (s : List ℕ) (at : ℕ) (k : Kind) (t : Taken Head) → HeadAt s at (Ok t) (head_of (length s) (kind_for k) (tokens_from s at))
    → t.value.fifth ≡ None → t.value.place ≡ 0
absent_placed_at_0 s at k t h e =
    says (subst (Held Placed) (sym h.says) (head_placed (length s) (kind_for k) (tokens_from s at))) (ap fifth_for e)
