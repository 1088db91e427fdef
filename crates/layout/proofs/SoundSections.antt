-- What a reader of a section accepts is laid out as the grammar says and fits with the sections before it. Assumes nothing.
use Prim.Native.Nat.{ℕ}
use native.Mathlib.Omega.{arith}
use mathlib.Core.Path.{◌≡◌, refl, sym}
use mathlib.Core.Logic.{◌⊎◌, inl, inr}
use mathlib.Core.List.{List}
use mathlib.Core.Bool.{true, false}
use borrow.Author.Tests.{eqb-true, eqb-false}
use lib.Dec.{eqb}
use Rattle.facts.proofs.Decides.{or_is, lt_is, ne_is, either_of}
use Rattle.tokens.specs.Listed.{Tok}
use Rattle.numbers.specs.declared.sort.Sort.{Sort}
use Rattle.numbers.specs.Whole.{section_id_of}
use Rattle.layout.specs.Items.{Kind, node, cell, face, id_of, Perhaps, absent, given, Header, Body, points, elements, facets, Item, part, dim_word, Wide}
use Rattle.layout.specs.Grammar.{Id, Heading, Stepped, Section, two, declares, regular, stepped}
use Rattle.layout.specs.Keeps.{Room, room_for, Some, SaysDim, DimFits, WidthFits, Fits}
use Rattle.layout.specs.State.{State, per, dim_after, dim_listed, fifth_listed, dim_agrees, dim_known}
use Rattle.layout.specs.Sections.{Head, header_of, two_of, decl_of, part_of, kind_of, other_of, section_of}
use Rattle.layout.proofs.Answers.{Held, held, bind, sure, fork}
use Rattle.layout.proofs.Tests.{fits_is, decl_range_is, part_range_is, zone_fits_is, listed_is, type_is, fifth_true}
use Rattle.layout.proofs.Dims.{dim_known_lem}
use Rattle.layout.proofs.Sums.{Seen, declared_is}
use Rattle.layout.proofs.Bodies.{Suits, body_suits}
use Rattle.layout.proofs.SoundWords.{top, right_holds, number_holds, hex_holds, skip_holds, body_holds, head_holds}

module _ (size : ℕ) where
  module _ (before : List Item) (x : State) (s : Seen before x) where
    dim_holds : (v : Perhaps) → dim_listed v ≡ true → dim_agrees x v ≡ true → DimFits before v
    dim_holds absent l a = tt
    dim_holds (given n) l a =
        let q = (listed_is n).0 l in
        record { listed = q; same = (s.dims.same n (either_of q (λ z. omega arith) (λ z. omega arith))).0 a }

    module _ (room : Room) where
      abbrev Good : List Tok → Item → List Tok → Type 0
      Good ts i us = Section ts i us × Fits room before i

      two_holds : (ts t₁ : List Tok) → Id ts 2 t₁ → Held (Good ts) (two_of size x t₁)
      unfolding two_of
      two_holds ts t₁ i =
          bind (hex_holds size t₁) λ n t₂ h. bind (right_holds size t₂) λ _ us r. sure _ _ _ λ l. sure _ _ _ λ a.
          held (two i h r, dim_holds (given n.value) l a)

      decl_holds : (k : Kind) (ts t₁ t₂ : List Tok) (h : Head) → Id ts (id_of k) t₁ → Heading t₁ (header_of h) t₂ → h.zone.value ≡ 0
          → Held (Good ts) (decl_of size room k x h t₂)
      unfolding decl_of
      decl_holds k ts t₁ t₂ h i a z =
          sure _ _ _ λ once. sure _ _ _ λ range. sure _ _ _ λ fits. sure _ _ _ λ l. sure _ _ _ λ e. bind (right_holds size t₂) λ _ us r.
          let b = (decl_range_is h.first.value h.last.value).0 range in
          held (
            declares k i a z r,
            record {
              once = (s.kinds k).free.0 once;
              first = b.0;
              small = b.1;
              roomy = (fits_is (room_for room k) h.last.value).0 fits;
              dimension = dim_holds (dim_word k h.fifth) l e;
            },
          )

      -- a node section's ND is judged with the fifth word
      fifth_dim : (k : Kind) (v : Perhaps) → fifth_listed k v ≡ true → dim_listed (dim_word k v) ≡ true
      fifth_dim node v e = e
      fifth_dim cell v e = refl
      fifth_dim face v e = refl

      width_is : (v : Perhaps) → dim_known node (dim_after x.dimension v) ≡ true
          → (v ≡ given (dim_after x.dimension v)) ⊎ Some (SaysDim (dim_after x.dimension v)) before
      width_is absent e = inr (dim_known_lem s.dims x.dimension ((ne_is x.dimension 0).0 e) refl)
      width_is (given n) e = inl refl

      width_holds : (b : Body) (k : Kind) (h : Header) → Suits k b → dim_known k (dim_after x.dimension (dim_word k h.fifth)) ≡ true
          → Wide (dim_after x.dimension (dim_word k h.fifth)) b → WidthFits before (part k h b) b
      width_holds (points d ps) node h p e w = rw (sym w) at (width_is h.fifth e)
      width_holds (points d ps) cell h p e w = absurd p
      width_holds (points d ps) face h p e w = absurd p
      width_holds (elements es) k h p e w = tt
      width_holds (facets fs) k h p e w = tt

      part_holds : (k : Kind) (ts t₁ t₂ : List Tok) (h : Head) → Id ts (id_of k) t₁ → Heading t₁ (header_of h) t₂ → (h.zone.value ≡ 0 → ⊥)
          → Held (Good ts) (part_of size room k x h t₂)
      unfolding part_of
      part_holds k ts t₁ t₂ h i a z =
          sure (per x k).declared _ _ λ dc. sure _ _ _ λ range. sure _ _ _ λ ap. sure _ _ _ λ ty.
          sure _ _ _ λ v. sure _ _ _ λ ag. sure _ _ _ λ kn. sure _ _ _ λ zf.
          bind (body_holds size k _ _ h.fifth t₂) λ b t₃ p. bind (right_holds size t₃) λ _ us r.
          let w = (part_range_is (per x k).total h.zone.value h.first.value h.last.value).0 range in
          let q = (zone_fits_is room.zones x.zones).0 zf in
          held (
            regular k i a (omega arith) p.0 r,
            record {
              total = (per x k).total;
              declared = declared_is before k (per x k) (s.kinds k) dc;
              zone = w.0;
              low = w.1.0;
              order = w.1.1.0;
              high = omega (arith, w.1.1.1);
              apart = ((s.kinds k).apart h.first.value h.last.value).0 ap;
              type = (type_is k h.type.value).0 ty;
              fifth = fifth_true k h.fifth v;
              dimension = dim_holds (dim_word k h.fifth) (fifth_dim k h.fifth v) ag;
              width = width_holds b k (header_of h) (body_suits p.0) kn p.1;
              few = rw s.zones at q.0;
              roomy = rw s.zones at q.1;
            },
          )

      kind_holds : (k : Kind) (ts t₁ : List Tok) → Id ts (id_of k) t₁ → Held (Good ts) (kind_of size room k x t₁)
      unfolding kind_of
      kind_holds k ts t₁ i =
          bind (head_holds size k t₁) λ h t₂ a.
          fork (eqb h.zone.value 0) (λ e. decl_holds k ts t₁ t₂ h i a (eqb-true _ _ e)) (λ e. part_holds k ts t₁ t₂ h i a (eqb-false _ _ e))

      other_holds : (ts t₁ : List Tok) (n : ℕ) → Id ts n t₁ → Stepped n → Held (Good ts) (other_of size room t₁)
      unfolding other_of
      other_holds ts t₁ n i p = bind (skip_holds size 0 t₁) λ _ us h. held (stepped i p (top h), tt)

      pub section_holds : (ts : List Tok) → Held (Good ts) (section_of size room x ts)
      unfolding section_of
      section_holds ts =
          bind (number_holds size section_id_of Sort.SectionId ts) λ n t₁ i. sure _ _ _ λ nb.
          fork (eqb n.value 2) (λ e. two_holds ts t₁ (rw (eqb-true n.value 2 e) at i)) λ e₂.
          fork (eqb n.value 10) (λ e. kind_holds node ts t₁ (rw (eqb-true n.value 10 e) at i)) λ e₁₀.
          fork (eqb n.value 12) (λ e. kind_holds cell ts t₁ (rw (eqb-true n.value 12 e) at i)) λ e₁₂.
          fork (eqb n.value 13) (λ e. kind_holds face ts t₁ (rw (eqb-true n.value 13 e) at i)) λ e₁₃.
          other_holds ts t₁ n.value i
          (record {
            not_dimension = eqb-false _ _ e₂;
            not_kind = not_kind e₁₀ e₁₂ e₁₃;
            not_binary = (or_is (lt_is n.value 2000) (lt_is 3999 n.value)).0 nb;
          })
        where
          not_kind : {n : ℕ} → eqb n 10 ≡ false → eqb n 12 ≡ false → eqb n 13 ≡ false → (k : Kind) → n ≡ id_of k → ⊥
          not_kind a b c node = eqb-false _ _ a
          not_kind a b c cell = eqb-false _ _ b
          not_kind a b c face = eqb-false _ _ c
