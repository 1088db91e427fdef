-- A section that is laid out as the grammar says and fits with the sections before it is read. Assumes nothing.
use Prim.Native.Nat.{ℕ, ◌<◌}
use native.Mathlib.Omega.{arith}
use mathlib.Core.Path.{◌≡◌, refl, sym, ◌∙◌, ap, subst}
use mathlib.Core.Logic.{◌⊎◌, inl, inr}
use mathlib.Core.List.{List, [], ◌∷◌}
use mathlib.Core.Bool.{true}
use borrow.Author.Tests.{eq-eqb, ne_eqb}
use lib.Dec.{eqb}
use Rattle.facts.proofs.Decides.{or_is, lt_is, ne_is, or_left, either_of}
use Rattle.tokens.specs.Listed.{Tok}
use Rattle.numbers.specs.declared.sort.Sort.{Sort}
use Rattle.layout.specs.Items.{Kind, node, cell, face, id_of, Perhaps, absent, given, Header, count_of, Body, points, elements, facets, Item, dim, decl, part, other, dim_word, Wide}
use Rattle.layout.specs.Grammar.{Right, Id, Hex, BodyOf, Inside, Stepped, Section, two, declares, regular, stepped}
use Rattle.layout.specs.Keeps.{Room, room_for, Some, SaysDim, Agrees, DimFits, FifthOf, WidthFits, DeclFits, PartFits, Fits}
use Rattle.layout.specs.Reading.{got}
use Rattle.layout.specs.State.{State, per, dim_after, dim_listed, fifth_listed, dim_agrees, is_node, dim_known}
use Rattle.layout.specs.Sections.{Head, header_of, head_of, two_of, decl_of, part_of, kind_of, other_of, section_of}
use Rattle.layout.proofs.Tests.{among_is, fits_is, decl_range_is, part_range_is, zone_fits_is, listed_is, type_is}
use Rattle.layout.proofs.Dims.{dims_same, dim_is}
use Rattle.layout.proofs.Sums.{Seen, total_is}
use Rattle.layout.proofs.Bodies.{Suits, body_suits}
use Rattle.layout.proofs.CompleteWords.{right_is, number_is, hex_is, skip_is, body_is, head_is, lacks_decl, lacks_part}

module _ (size : ℕ) where
  module _ (before : List Item) (x : State) (s : Seen before x) (room : Room) where
    dim_true : (v : Perhaps) → DimFits before v → (dim_listed v ≡ true) × (dim_agrees x v ≡ true)
    dim_true absent f = (refl, refl)
    dim_true (given n) f = ((listed_is n).1 f.listed, (s.dims.same n (either_of f.listed (λ z. omega arith) (λ z. omega arith))).1 f.same)

    -- the width of a node body is the dimension then known
    width_is : (v : Perhaps) (d : ℕ) → DimFits before v → (v ≡ given d) ⊎ Some (SaysDim d) before → (dim_after x.dimension v ≡ d) × (d ≡ 0 → ⊥)
    width_is absent d f (inl e) = absurd (let z : ◌≡◌ {A = ℕ} 0 1 = cc in omega arith)
    width_is absent d f (inr h) = dim_is s.dims d h
    width_is (given m) d f (inl e) = let q : m ≡ d = cc in (q, λ z. either_of f.listed (λ y. omega arith) (λ y. omega arith))
    width_is (given m) d f (inr h) = (sym (dims_same m before f.same h), (dim_is s.dims d h).1)

    width_true : (b : Body) (k : Kind) (h : Header) → Suits k b → DimFits before (dim_word k h.fifth) → WidthFits before (part k h b) b
        → (dim_known k (dim_after x.dimension (dim_word k h.fifth)) ≡ true) × Wide (dim_after x.dimension (dim_word k h.fifth)) b
    width_true (points d ps) node h p f w = let q = width_is h.fifth d f w in ((ne_is _ 0).1 (λ z. q.1 (sym q.0 ∙ z)), sym q.0)
    width_true (elements es) node h p f w = absurd p
    width_true (facets fs) node h p f w = absurd p
    width_true (points d ps) cell h p f w = absurd p
    width_true (elements es) cell h p f w = (refl, tt)
    width_true (facets fs) cell h p f w = absurd p
    width_true (points d ps) face h p f w = absurd p
    width_true (elements es) face h p f w = absurd p
    width_true (facets fs) face h p f w = (refl, tt)

    fifth_back : (k : Kind) (v : Perhaps) → FifthOf k v → DimFits before (dim_word k v) → fifth_listed k v ≡ true
    fifth_back node v p f = (dim_true v f).0
    fifth_back cell absent p f = absurd p
    fifth_back cell (given e) p f = (among_is (0 ∷ 1 ∷ 2 ∷ 3 ∷ 4 ∷ 5 ∷ 6 ∷ []) e).1 p
    fifth_back face absent p f = absurd p
    fifth_back face (given e) p f = (among_is (0 ∷ 2 ∷ 3 ∷ 4 ∷ []) e).1 p

    two_is : {n : ℕ} {ts us vs : List Tok} → Hex ts n us → Right us vs → Agrees before n → two_of size x ts ≡ got (dim n) vs
    unfolding two_of
    two_is {n} h r f = let d = dim_true (given n) f in rw (hex_is size h, right_is size r, d.0, d.1)

    decl_is : (k : Kind) (h : Head) {ts us : List Tok} → Right ts us → DeclFits room before k (header_of h)
        → decl_of size room k x h ts ≡ got (decl k (header_of h)) us
    unfolding decl_of
    decl_is k h r f =
        let d = dim_true (dim_word k h.fifth) f.dimension in
        rw (
          (s.kinds k).free.1 f.once,
          (decl_range_is h.first.value h.last.value).1 (f.first, f.small),
          (fits_is (room_for room k) h.last.value).1 f.roomy,
          d.0,
          d.1,
          right_is size r,
        )

    part_is : (k : Kind) (h : Head) {b : Body} {ts t₁ us : List Tok} → BodyOf k (count_of (header_of h)) h.fifth ts b t₁ → Right t₁ us
        → PartFits room before k (header_of h) b
        → part_of size room k x h ts ≡ got (part k (header_of h) b) us
    unfolding part_of
    part_is k h {b} p r f =
        let t = total_is before k (per x k) (s.kinds k) f.total f.declared in
        let d = dim_true (dim_word k h.fifth) f.dimension in
        let w = width_true b k (header_of h) (body_suits p) f.dimension f.width in
        rw (
          t.0,
          (part_range_is (per x k).total h.zone.value h.first.value h.last.value).1 (f.zone, (f.low, (f.order, rw t.1 f.high))),
          ((s.kinds k).apart h.first.value h.last.value).1 f.apart,
          (type_is k h.type.value).1 f.type,
          fifth_back k h.fifth f.fifth f.dimension,
          d.1,
          w.0,
          (zone_fits_is room.zones x.zones).1 (rw s.zones f.few, rw s.zones f.roomy),
          body_is size (dim_after x.dimension (dim_word k h.fifth)) p w.1,
          right_is size r,
        )

    kind_is : (k : Kind) {ts t₁ : List Tok} → Id ts (id_of k) t₁ → section_of size room x ts ≡ kind_of size room k x t₁
    unfolding section_of
    kind_is node i = rw (number_is size Sort.SectionId i)
    kind_is cell i = rw (number_is size Sort.SectionId i)
    kind_is face i = rw (number_is size Sort.SectionId i)

    kind_decl : (k : Kind) (h : Head) (ts us : List Tok) → head_of size k ts ≡ got h us → h.zone.value ≡ 0
        → kind_of size room k x ts ≡ decl_of size room k x h us
    unfolding kind_of
    kind_decl k h ts us e z = rw (e, eq-eqb h.zone.value 0 z)

    kind_part : (k : Kind) (h : Head) (ts us : List Tok) → head_of size k ts ≡ got h us → 0 < h.zone.value
        → kind_of size room k x ts ≡ part_of size room k x h us
    unfolding kind_of
    kind_part k h ts us e z = rw (e, ne_eqb h.zone.value 0 (λ y. omega arith))

    two_first : {ts us : List Tok} → Id ts 2 us → section_of size room x ts ≡ two_of size x us
    unfolding section_of
    two_first i = rw (number_is size Sort.SectionId i)

    other_first : {n : ℕ} {ts us : List Tok} → Id ts n us → Stepped n → section_of size room x ts ≡ other_of size room us
    unfolding section_of
    other_first {n} i p =
        rw (
          number_is size Sort.SectionId i,
          (or_is (lt_is n 2000) (lt_is 3999 n)).1 p.not_binary,
          ne_eqb n 2 p.not_dimension,
          ne_eqb n 10 (p.not_kind node),
          ne_eqb n 12 (p.not_kind cell),
          ne_eqb n 13 (p.not_kind face),
        )

    other_is : {ts us : List Tok} → Inside 1 ts us → other_of size room ts ≡ got other us
    unfolding other_of
    other_is h = rw (skip_is size 0 1 h refl)

    pub section_is : {i : Item} {ts us : List Tok} → Section ts i us → Fits room before i → section_of size room x ts ≡ got i us
    section_is (two i h r) f = two_first i ∙ two_is h r f
    section_is (declares {h = h} {us = us} k i a z r) f =
        let w = head_is size a k (lacks_decl size _ h.fifth (or_left (is_node k) (eq-eqb h.zone 0 z))) in
        let e = w.says in
        kind_is k i ∙ kind_decl k w.head _ _ w.reads (ap (λ (y : Header). y.zone) e ∙ z)
        ∙ decl_is k w.head r (subst (λ y. DeclFits room before k y) (sym e) f) ∙ ap (λ y. got (decl k y) us) e
    section_is (regular {h = h} {b = b} {t₂ = t₂} {t₃ = t₃} {us = us} k i a z p r) f =
        let w = head_is size a k (lacks_part size (eqb h.zone 0) k h.fifth f.fifth) in
        let e = w.says in
        kind_is k i ∙ kind_part k w.head _ _ w.reads (omega (arith, ap (λ (y : Header). y.zone) e, z))
        ∙ part_is k w.head (subst (λ y. BodyOf k (count_of y) y.fifth t₂ b t₃) (sym e) p) r (subst (λ y. PartFits room before k y b) (sym e) f)
        ∙ ap (λ y. got (part k y b) us) e
    section_is (stepped i p h) f = other_first i p ∙ other_is h
