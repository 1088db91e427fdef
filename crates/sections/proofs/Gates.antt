-- The tests that the code makes of a header are those of the layout, in its order. Assumes nothing.
use Prim.Native.Nat.{ℕ, suc, ◌-◌}
use mathlib.Core.Path.{◌≡◌, refl, sym, ◌∙◌, ap}
use mathlib.Core.List.{List, [], ◌∷◌}
use mathlib.Core.Bool.{Bool, true, false, not}
use borrow.Author.Tests.{eq-eqb, ne_eqb}
use lib.Dec.{leb, eqb}
use Rattle.facts.proofs.Decides.{and_split}
use Rattle.sizes.specs.Sizes.{zone_id}
use Rattle.tokens.specs.Listed.{Tok}
use Rattle.layout.specs.declared.Refusal.{Refusal}
use Rattle.layout.specs.Items as Items
use Rattle.layout.specs.Reading.{Got, got, bad, Reader, next, pure, choose, right_of}
use Rattle.layout.specs.State.{Span, dim_after, dim_agrees, dim_listed, type_listed, fifth_listed, fits_in, decl_range, part_range, zone_fits}
use Rattle.layout.specs.Sections.{header_of, body_of, decl_of, part_of}
use Rattle.spots.specs.declared.Kind.{Kind}
use Rattle.spots.specs.declared.Head.{Head}
use Rattle.sofar.specs.declared.State.{State}
use Rattle.sofar.specs.declared.Room.{Room}
use Rattle.std.specs.Prelude.{Result, Ok}
use Rattle.spots.specs.declared.Bad.{Bad}
use Rattle.notes.specs.declared.note.Met.{Met}
use Rattle.spots.specs.Heads.{kind_for, fifth_for, head_for}
use Rattle.bodies.specs.Bodies.{forget}
use Rattle.ranges.specs.Ranges.{limit_for}
use Rattle.dims.specs.Dims.{dim_word_for, agrees, known}
use Rattle.judging.specs.Judging.{test, decl_judged, part_judged}
use Rattle.sofar.specs.Sofar.{seen_of, room_of, count_for}
use Rattle.sections.specs.Sections.{Outline, outline_of, outlined, met_for, room_all, clear_for, gate, ended, body_ended}
use Rattle.sofar.specs.States.{state_by}

-- ---- the tests of the code are those of the layout
pub record Test : Type 0 where
  pub ok : Bool
  pub why : Refusal
  pub offset : ℕ

abbrev pub judge_of : List Test → Result Unit Bad
judge_of [] = Ok tt
judge_of (t ∷ l) = test t.ok t.why t.offset (judge_of l)

abbrev pub got_of : List Test → Got Items.Item → Got Items.Item
got_of [] g = g
got_of (t ∷ l) g = elim t.ok [ true ↦ got_of l g | false ↦ bad t.why t.offset ]

module _ (m : Reader Outline) (ts : List Tok) (g : Got Items.Item) (e : m ts ≡ outlined g) where
  gated : (b : Bool) (w : Refusal) (o : ℕ) (r : Result Unit Bad) (k : Got Items.Item) → gate r m ts ≡ outlined k
      → gate (test b w o r) m ts ≡ outlined (elim b [ true ↦ k | false ↦ bad w o ])
  gated true w o r k z = z
  gated false w o r k z = refl

  pub gates : (l : List Test) → gate (judge_of l) m ts ≡ outlined (got_of l g)
  gates [] = e
  gates (t ∷ l) = gated t.ok t.why t.offset (judge_of l) (got_of l g) (gates l)

module _ (size : ℕ) (ts : List Tok) where
  ended_by : (m : Met) (i : Items.Item) → met_for m ≡ outline_of i → (g : Got ℕ) → next g (λ o. pure (met_for m)) ≡ outlined (next g (λ o. pure i))
  ended_by m i e (got o us) = ap (λ y. got y us) e
  ended_by m i e (bad w o) = refl

  body_by : (k : Kind) (h : Head) (g : Got Items.Body)
      → next (forget g) (λ u. ended size (Met.Part k h)) ≡ outlined (next g (λ b us. next (right_of size us) (λ o. pure (Items.part (kind_for k) (header_of (head_for h)) b))))
  body_by k h (got b us) = ended_by (Met.Part k h) (Items.part (kind_for k) (header_of (head_for h)) b) refl (right_of size us)
  body_by k h (bad w o) = refl

-- ---- headers
module _ (spans : ℕ → ℕ → List Span) (size : ℕ) (x : State) (room : Room) (h : Head) (ts : List Tok) where
  abbrev dim_with : Kind → Bool
  dim_with k = dim_agrees (state_by spans x) (fifth_for (dim_word_for k h.fifth))

  agreeing : (v : Items.Perhaps) → agrees x.dim v ≡ dim_agrees (state_by spans x) v
  agreeing Items.absent = refl
  agreeing (Items.given n) = refl

  -- `agree` is the test of the dimension
  abbrev decl_tests : Kind → Bool → List Test
  decl_tests k agree =
      record { ok = not (seen_of x k).declared; why = Refusal.Undeclared; offset = h.zone.at }
      ∷ record { ok = decl_range h.first.value h.last.value; why = Refusal.Range; offset = h.first.at }
      ∷ record { ok = fits_in (limit_for (room_of room k)) h.last.value; why = Refusal.TableRoom; offset = h.first.at }
      ∷ record { ok = dim_listed (fifth_for (dim_word_for k h.fifth)); why = Refusal.Type; offset = h.place }
      ∷ record { ok = agree; why = Refusal.Dimension; offset = h.place }
      ∷ []

  abbrev part_tests : Kind → Bool → List Test
  part_tests k agree =
      record { ok = (seen_of x k).declared; why = Refusal.Undeclared; offset = h.zone.at }
      ∷ record { ok = part_range (seen_of x k).total h.zone.value h.first.value h.last.value; why = Refusal.Range; offset = h.first.at }
      ∷ record { ok = clear_for spans k x.zones h; why = Refusal.Overlap; offset = h.first.at }
      ∷ record { ok = type_listed (kind_for k) h.ztype.value; why = Refusal.Type; offset = h.ztype.at }
      ∷ record { ok = fifth_listed (kind_for k) (fifth_for h.fifth); why = Refusal.Type; offset = h.place }
      ∷ record { ok = agree; why = Refusal.Dimension; offset = h.place }
      ∷ record { ok = known k (dim_after x.dim (fifth_for (dim_word_for k h.fifth))); why = Refusal.Dimension; offset = h.end }
      ∷ record { ok = zone_fits (limit_for room.zones) x.zones; why = Refusal.ZoneRoom; offset = h.zone.at }
      ∷ []

  -- judged with the code's test of the dimension, then with the layout's
  turned : (l : Bool → List Test) (k : Kind) (m : Reader Outline)
      → gate (judge_of (l (agrees x.dim (fifth_for (dim_word_for k h.fifth))))) m ts ≡ gate (judge_of (l (dim_with k))) m ts
  turned l k m = ap (λ b. gate (judge_of (l b)) m ts) (agreeing (fifth_for (dim_word_for k h.fifth)))

  decl_gates : (k : Kind)
      → gate (judge_of (decl_tests k (agrees x.dim (fifth_for (dim_word_for k h.fifth))))) (ended size (Met.Decl k h)) ts
      ≡ outlined (got_of (decl_tests k (dim_with k)) (next (right_of size ts) (λ o. pure (Items.decl (kind_for k) (header_of (head_for h))))))
  decl_gates k =
      turned (decl_tests k) k (ended size (Met.Decl k h))
      ∙ gates (ended size (Met.Decl k h)) ts _ (ended_by size ts (Met.Decl k h) (Items.decl (kind_for k) (header_of (head_for h))) refl (right_of size ts)) (decl_tests k (dim_with k))

  pub decl_is : (k : Kind)
      → gate (decl_judged k x (room_of room k) h) (ended size (Met.Decl k h)) ts ≡ outlined (decl_of size (room_all room) (kind_for k) (state_by spans x) (head_for h) ts)
  unfolding decl_of
  decl_is Kind.Node = decl_gates Kind.Node
  decl_is Kind.Cell = decl_gates Kind.Cell
  decl_is Kind.Face = decl_gates Kind.Face

  -- ---- regular sections
  abbrev body_at : Kind → ℕ → Got Items.Body
  body_at k n = body_of size (kind_for k) (dim_after x.dim (fifth_for (dim_word_for k h.fifth))) n (fifth_for h.fifth) ts

  abbrev part_got : Kind → ℕ → Got Items.Item
  part_got k n = next (body_at k n) (λ b us. next (right_of size us) (λ o. pure (Items.part (kind_for k) (header_of (head_for h)) b)))

  part_gates : (k : Kind)
      → gate (judge_of (part_tests k (agrees x.dim (fifth_for (dim_word_for k h.fifth))))) (body_ended size k x.dim h) ts
      ≡ outlined (got_of (part_tests k (dim_with k)) (part_got k (count_for h.first.value h.last.value)))
  part_gates k =
      turned (part_tests k) k (body_ended size k x.dim h)
      ∙ gates (body_ended size k x.dim h) ts _ (body_by size ts k h (body_at k (count_for h.first.value h.last.value))) (part_tests k (dim_with k))

  -- a range that is good has the count that the layout has
  counted : (total : ℕ) → part_range total h.zone.value h.first.value h.last.value ≡ true → count_for h.first.value h.last.value ≡ suc h.last.value - h.first.value
  unfolding part_range
  counted total e =
      let a = and_split (leb h.zone.value zone_id) _ e in
      let b = and_split (leb 1 h.first.value) _ a.1 in
      let c = and_split (leb h.first.value h.last.value) _ b.1 in
      rw (count_for, b.0, c.0)

  count_by_lem : (b : Bool) (w : Refusal) (o : ℕ) {c n : ℕ} (f : ℕ → Got Items.Item) → (b ≡ true → c ≡ n)
      → ◌≡◌ {A = Got Items.Item} (elim b [ true ↦ f c | false ↦ bad w o ]) (elim b [ true ↦ f n | false ↦ bad w o ])
  count_by_lem true w o f e = ap f (e refl)
  count_by_lem false w o f e = refl

  declared_by : (b : Bool) (w : Refusal) (o : ℕ) {p q : Got Items.Item} → p ≡ q → ◌≡◌ {A = Got Items.Item} (elim b [ true ↦ p | false ↦ bad w o ]) (elim b [ true ↦ q | false ↦ bad w o ])
  declared_by true w o e = e
  declared_by false w o e = refl

  -- the tests behind the first two
  abbrev later_tests : Kind → List Test
  later_tests k =
      record { ok = clear_for spans k x.zones h; why = Refusal.Overlap; offset = h.first.at }
      ∷ record { ok = type_listed (kind_for k) h.ztype.value; why = Refusal.Type; offset = h.ztype.at }
      ∷ record { ok = fifth_listed (kind_for k) (fifth_for h.fifth); why = Refusal.Type; offset = h.place }
      ∷ record { ok = dim_with k; why = Refusal.Dimension; offset = h.place }
      ∷ record { ok = known k (dim_after x.dim (fifth_for (dim_word_for k h.fifth))); why = Refusal.Dimension; offset = h.end }
      ∷ record { ok = zone_fits (limit_for room.zones) x.zones; why = Refusal.ZoneRoom; offset = h.zone.at }
      ∷ []

  part_count : (k : Kind) → got_of (part_tests k (dim_with k)) (part_got k (count_for h.first.value h.last.value)) ≡ got_of (part_tests k (dim_with k)) (part_got k (suc h.last.value - h.first.value))
  part_count k =
      declared_by (seen_of x k).declared Refusal.Undeclared h.zone.at
      (count_by_lem (part_range (seen_of x k).total h.zone.value h.first.value h.last.value) Refusal.Range h.first.at (λ n. got_of (later_tests k) (part_got k n)) (counted (seen_of x k).total))

  pub part_is : (k : Kind)
      → gate (part_judged k x x.zones room.zones h (clear_for spans k x.zones h)) (body_ended size k x.dim h) ts
      ≡ outlined (part_of size (room_all room) (kind_for k) (state_by spans x) (head_for h) ts)
  unfolding part_of
  part_is Kind.Node = part_gates Kind.Node ∙ ap outlined (part_count Kind.Node)
  part_is Kind.Cell = part_gates Kind.Cell ∙ ap outlined (part_count Kind.Cell)
  part_is Kind.Face = part_gates Kind.Face ∙ ap outlined (part_count Kind.Face)

  -- ---- zone 0 or not
  chosen : (b c : Bool) → b ≡ c → (p q : Reader Items.Item) → choose c p q ts ≡ choose b p q ts
  chosen b c e p q = ap (λ y. choose y p q ts) (sym e)

  abbrev behind_head : Kind → Got Outline
  behind_head k =
      outlined (choose (eqb h.zone.value 0) (decl_of size (room_all room) (kind_for k) (state_by spans x) (head_for h))
      (part_of size (room_all room) (kind_for k) (state_by spans x) (head_for h)) ts)

  pub head_decl : (k : Kind) → h.zone.value ≡ 0 → gate (decl_judged k x (room_of room k) h) (ended size (Met.Decl k h)) ts ≡ behind_head k
  head_decl k e = decl_is k ∙ ap outlined (chosen (eqb h.zone.value 0) true (eq-eqb _ _ e) (decl_of size (room_all room) (kind_for k) (state_by spans x) (head_for h)) (part_of size (room_all room) (kind_for k) (state_by spans x) (head_for h)))

  pub head_part : (k : Kind) → (h.zone.value ≡ 0 → ⊥)
      → gate (part_judged k x x.zones room.zones h (clear_for spans k x.zones h)) (body_ended size k x.dim h) ts ≡ behind_head k
  head_part k n = part_is k ∙ ap outlined (chosen (eqb h.zone.value 0) false (ne_eqb _ _ n) (decl_of size (room_all room) (kind_for k) (state_by spans x) (head_for h)) (part_of size (room_all room) (kind_for k) (state_by spans x) (head_for h)))
