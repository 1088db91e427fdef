-- A regular section by its id: it is of one kind, and the tables of the others stay. Assumes nothing.
use Rattle.std.specs.Prelude.{◌≡◌, ℕ, Bool, true, false, eqb, List, length, Option, Some, None}
use native.Mathlib.Omega.{arith}
use mathlib.Core.Path.{refl, sym, ◌∙◌, ap, subst}
use borrow.Author.Tests.{eqb-true}
use Rattle.spots.specs.declared.Kind as Code
use Rattle.spots.specs.Heads.{kind_for}
use Rattle.sofar.specs.Sofar.{kind_for_id}
use Rattle.tokens.specs.Listed.{Tok, tokens_from}
use Rattle.numbers.specs.declared.sort.Sort.{Sort}
use Rattle.numbers.specs.Whole.{section_id_of}
use Rattle.layout.specs.Items.{Kind, node, cell, face, id_of, Header, Body, Item, part}
use Rattle.layout.specs.Grammar.{Section, regular}
use Rattle.layout.specs.Rows.{Table, same_kind, piece_of}
use Rattle.layout.specs.Reading.{number_by}
use Rattle.layout.proofs.CompleteWords.{number_is}
use Rattle.again.specs.Again.{Steps}
use Rattle.filling.specs.Passing.{Regular, laid_by, Passes, PassesAt}
use Rattle.again.proofs.Then.{then_is}
use Rattle.filling.proofs.Passing.{left_out}

-- ---- a table that another section leaves alone
pub laid_other : {A : Type 0} (t : Table A) (k : Kind) (h : Header) (b : Body) (old : List A) → same_kind k t.kind ≡ false → old ≡ laid_by t (part k h b) old
laid_other t k h b old e = left_out (piece_of t h b) (same_kind k t.kind) old e

-- ---- ids
id_only : (j k : Kind) → id_of j ≡ id_of k → j ≡ k
id_only node node e = refl
id_only node cell e = absurd (omega arith)
id_only node face e = absurd (omega arith)
id_only cell node e = absurd (omega arith)
id_only cell cell e = refl
id_only cell face e = absurd (omega arith)
id_only face node e = absurd (omega arith)
id_only face cell e = absurd (omega arith)
id_only face face e = refl

abbrev named_by : Bool → Bool → Bool → Option Code.Kind
named_by a b c = elim a [ true ↦ Some Code.Kind.Node | false ↦ elim b [ true ↦ Some Code.Kind.Cell | false ↦ elim c [ true ↦ Some Code.Kind.Face | false ↦ None ] ] ]

-- the kind that an id names
pub named_is : (v : ℕ) (o : Option Code.Kind) → o ≡ kind_for_id v → (k : Code.Kind) → o ≡ Some k → v ≡ id_of (kind_for k)
named_is v o q k e = by (eqb v 10) (eqb v 12) (eqb v 13) refl refl refl (sym e ∙ q)
  where
    by : (a b c : Bool) → eqb v 10 ≡ a → eqb v 12 ≡ b → eqb v 13 ≡ c → Some k ≡ named_by a b c → v ≡ id_of (kind_for k)
    by true b c x y z w = let n : k ≡ Code.Kind.Node = cc in eqb-true v 10 x ∙ ap (λ j. id_of (kind_for j)) (sym n)
    by false true c x y z w = let n : k ≡ Code.Kind.Cell = cc in eqb-true v 12 y ∙ ap (λ j. id_of (kind_for j)) (sym n)
    by false false true x y z w = let n : k ≡ Code.Kind.Face = cc in eqb-true v 13 z ∙ ap (λ j. id_of (kind_for j)) (sym n)
    by false false false x y z w = absurd (cc)

named_not : (v : ℕ) → kind_for_id v ≡ None → (k : Kind) → v ≡ id_of k → ⊥
named_not v q k e = by k (ap (λ n. kind_for_id n) (sym e) ∙ q)
  where
    by : (k : Kind) → kind_for_id (id_of k) ≡ None → ⊥
    by node w = cc
    by cell w = cc
    by face w = cc

module _ (s : List ℕ) (at m v : ℕ) (g : Steps s m (number_by (length s) section_id_of Sort.SectionId (tokens_from s at)) (λ x. v ≡ x.value)) where
  record Named (k : Kind) (h : Header) (b : Body) : Type 0 where
    value : v ≡ id_of k
    regular : Regular k (tokens_from s m) h b

  named : {k : Kind} {h : Header} {b : Body} {us : List Tok} → Section (tokens_from s at) (part k h b) us → Named k h b
  named (regular {t₁ = t₁} {t₂ = t₂} {t₃ = t₃} k i a z p r) =
      let y = then_is (λ x us. (v ≡ x.value) × (tokens_from s m ≡ us)) _ t₁ (number_is (length s) Sort.SectionId i) g in
      record { value = y.0; regular = record { inside = t₂; behind = t₃; heading = rw y.1 a; body = p } }

  module _ (z d : ℕ) (old new : List ℕ) (Q : Item → Type 0) where
    -- the id is that of the kind k
    pub passes_kind : (k : Kind) (P : Item → Type 0) → v ≡ id_of k → Passes s m z d k old new P → ((h : Header) (b : Body) → P (part k h b) → Q (part k h b)) → PassesAt s at z d old new Q
    passes_kind k P e p q = record { says = λ j h b w f. let n = named w.section in (of j (id_only k j (sym e ∙ n.value))).says h b n.regular f }
      where
        of : (j : Kind) → k ≡ j → Passes s m z d j old new Q
        of j x = subst (λ y. Passes s m z d y old new Q) x (record { says = λ h b r f. let u = p.says h b r f in (q h b u.0, u.1) })

    -- it is that of none
    pub passes_none : (o : Option Code.Kind) → o ≡ kind_for_id v → o ≡ None → PassesAt s at z d old new Q
    passes_none o q e = record { says = λ j h x w f. absurd (named_not v (sym q ∙ e) j (named w.section).value) }
