-- A section's answer, part by part. Assumes nothing.
use Rattle.std.specs.Prelude.{Result, Ok, Err, Option}
use Prim.Native.Nat.{ℕ, ◌≤◌}
use native.Mathlib.Omega.{arith}
use mathlib.Core.Path.{◌≡◌, refl, sym, ◌∙◌, ap}
use mathlib.Core.List.{List, [], ◌∷◌}
use mathlib.Core.Bool.{Bool, ◌||◌}
use lib.Dec.{eqb}
use lib.ListN.{length}
use Rattle.tokens.specs.Listed.{tokens_from}
use Rattle.layout.specs.declared.Refusal.{Refusal}
use Rattle.layout.specs.Items as Items
use Rattle.layout.specs.Reading.{Got, got, Reader, next, pure, check, right_of, skip}
use Rattle.layout.specs.State.{Span, every, clear, dim_after, dim_agrees, dim_listed}
use Rattle.layout.specs.State as St
use Rattle.layout.specs.Keeps as Keeps
use Rattle.layout.specs.Sections.{body_of, other_of}
use Rattle.facts.specs.declared.Taken.{Taken}
use Rattle.spots.specs.declared.Bad.{Bad}
use Rattle.spots.specs.declared.Kind.{Kind}
use Rattle.spots.specs.declared.Head.{Head}
use Rattle.sofar.specs.declared.State.{State}
use Rattle.sofar.specs.declared.Room.{Room}
use Rattle.notes.specs.declared.note.Met.{Met}
use Rattle.steps.specs.Views.{CloseAt}
use Rattle.spots.specs.Pasts.{past_view, PastAt, taken, TakenAt}
use Rattle.spots.specs.Heads.{kind_for, fifth_for}
use Rattle.bodies.specs.Bodies.{forget, LooseAt}
use Rattle.dims.specs.Dims.{dim_word_for}
use Rattle.judging.specs.Judging.{decl_judged, part_judged}
use Rattle.sofar.specs.Sofar.{room_of, id_for, count_for}
use Rattle.sections.specs.Sections.{Outline, outlined, met_for, SectAt, clear_for, gate, ended, two_judged, two_end}
use Rattle.steps.proofs.Chain.{past_no, past_to, past_ahead, taken_no, taken_to, taken_ahead, later, then_no, then_last}
use Rattle.bodies.proofs.Loose.{loose_is}
use Rattle.sections.proofs.Gates.{Test, got_of, gates}

-- a section's answer
abbrev Sect : Type 0
Sect = Result (Taken Met) Bad

module _ (s : List ℕ) (at : ℕ) where
  pub sect_is : {g k : Got Outline} {r : Sect} → g ≡ k → SectAt s at r g → SectAt s at r k
  sect_is e h = record { says = h.says ∙ e; ahead = h.ahead }

  -- ---- the `)`
  module _ (m : Met) {r : Result (Taken ℕ) Bad} (h : CloseAt s at r (right_of (length s) (tokens_from s at))) where
    pub end_no : (b : Bad) → r ≡ Err b → SectAt s at (Err b) (ended (length s) m (tokens_from s at))
    end_no b q = then_no met_for s at _ h b q

    pub end_to : (t : Taken ℕ) → r ≡ Ok t → SectAt s at (taken m t.next) (ended (length s) m (tokens_from s at))
    end_to t q = then_last met_for s at (λ o. met_for m) h t q m refl

  -- ---- judgements
  module _ {j w : Result Unit Bad} (e : j ≡ w) (k : Reader Outline) where
    pub gate_no : (b : Bad) → j ≡ Err b → SectAt s at (Err b) (gate w k (tokens_from s at))
    gate_no b q = record { says = ap (λ y. gate y k (tokens_from s at)) (sym q ∙ e); ahead = tt }

    pub gate_fine : {u : Unit} → j ≡ Ok u → {r : Sect} → SectAt s at r (k (tokens_from s at)) → SectAt s at r (gate w k (tokens_from s at))
    gate_fine q h = record { says = h.says ∙ ap (λ y. gate y k (tokens_from s at)) (sym q ∙ e); ahead = h.ahead }

  -- ---- a body, then the `)`
  module _ (m : Met) {p : Result ℕ Bad} {g : Got Unit} (h : LooseAt s at p g) where
    pub rows_no : (b : Bad) → p ≡ Err b → SectAt s at (Err b) (next g (λ u. ended (length s) m))
    rows_no b q = record { says = ap (λ y. next y (λ u. ended (length s) m)) (ap (past_view s) (sym q) ∙ h.says); ahead = tt }

    pub rows_to : (n : ℕ) → p ≡ Ok n → {y : Sect} → SectAt s n y (ended (length s) m (tokens_from s n)) → SectAt s at y (next g (λ u. ended (length s) m))
    rows_to n q {y = y} k =
        let l : at ≤ n = rw q at h.from in
        record { says = k.says ∙ ap (λ y. next y (λ u. ended (length s) m)) (ap (past_view s) (sym q) ∙ h.says); ahead = later met_for s at n y l k.ahead }

-- ---- the code's locals are what the definitions name
module _ (x : State) (room : Room) (k : Kind) (h : Head) where
  pub decl_as : {limit : Option ℕ} {j : Result Unit Bad} → limit ≡ room_of room k → j ≡ decl_judged k x limit h → j ≡ decl_judged k x (room_of room k) h
  decl_as z q = q ∙ ap (λ y. decl_judged k x y h) z

  pub part_as : (spans : ℕ → ℕ → List Span) {id : ℕ} {apart : Bool} {j : Result Unit Bad} → id ≡ id_for k
      → apart ≡ every (clear h.first.value h.last.value) (spans id x.zones)
      → j ≡ part_judged k x x.zones room.zones h apart
      → j ≡ part_judged k x x.zones room.zones h (clear_for spans k x.zones h)
  part_as spans i z q = q ∙ ap (part_judged k x x.zones room.zones h) (z ∙ ap (λ y. every (clear h.first.value h.last.value) (spans y x.zones)) i)

pub body_as : (s : List ℕ) (at : ℕ) (k : Kind) (dim : ℕ) (h : Head) {f w : Option ℕ} {d n : ℕ} {p : Result ℕ Bad} → f ≡ h.fifth → w ≡ dim_word_for k f → d ≡ dim_after dim (fifth_for w) → n ≡ count_for h.first.value h.last.value
    → LooseAt s at p (forget (body_of (length s) (kind_for k) d n (fifth_for f) (tokens_from s at)))
    → LooseAt s at p (forget (body_of (length s) (kind_for k) (dim_after dim (fifth_for (dim_word_for k h.fifth))) (count_for h.first.value h.last.value) (fifth_for h.fifth) (tokens_from s at)))
body_as s at k dim h {f} {w} {d} {n} y e z q l =
    loose_is s at
    (ap (λ y. forget (body_of (length s) (kind_for k) y n (fifth_for f) (tokens_from s at))) (z ∙ ap (λ y. dim_after dim (fifth_for y)) e)
    ∙ ap (λ y. forget (body_of (length s) (kind_for k) (dim_after dim (fifth_for (dim_word_for k f))) y (fifth_for f) (tokens_from s at))) q
    ∙ ap (λ v. forget (body_of (length s) (kind_for k) (dim_after dim (fifth_for (dim_word_for k v))) (count_for h.first.value h.last.value) (fifth_for v) (tokens_from s at))) y)
    l

-- ---- one thing, then the rest
module _ (s : List ℕ) (at : ℕ) where
  module _ {T B : Type 0} {v : T → B} {g : Got B} (f : B → Reader Items.Item) {r : Result (Taken T) Bad} (q : TakenAt v s at r g) where
    pub read_no : (b : Bad) → r ≡ Err b → SectAt s at (Err b) (outlined (next g f))
    read_no b e = record { says = ap outlined (taken_no s at f q b e); ahead = tt }

    pub read_to : (t : Taken T) → r ≡ Ok t → {y : Sect} → SectAt s t.next y (outlined (f (v t.value) (tokens_from s t.next))) → SectAt s at y (outlined (next g f))
    read_to t e {y = y} k = record { says = k.says ∙ ap outlined (taken_to s at f q t e); ahead = later met_for s at t.next y (omega (arith, taken_ahead s at t q e)) k.ahead }

  -- ---- section 2: the `)` and the tests behind it
  module _ (x : St.State) (d : ℕ) (z : d ≡ x.dimension) (v i : ℕ) {r : Result (Taken ℕ) Bad} (q : CloseAt s at r (right_of (length s) (tokens_from s at))) where
    pub two_shut : (b : Bad) → r ≡ Err b → SectAt s at (Err b) (outlined (two_end (length s) x v i (tokens_from s at)))
    two_shut b e = read_no _ q b e

    abbrev two_tests : List Test
    two_tests =
        record { ok = dim_listed (Items.given v); why = Refusal.Type; offset = i }
        ∷ record { ok = eqb d 0 || eqb d v; why = Refusal.Dimension; offset = i }
        ∷ []

    module _ (t : Taken ℕ) (e : r ≡ Ok t) (j : Result Unit Bad) (w : j ≡ two_judged d v i) where
      abbrev last : Reader Outline
      last = λ ts. got (met_for (Met.Dim v)) ts

      judged : gate j last (tokens_from s t.next) ≡ outlined (two_end (length s) x v i (tokens_from s at))
      judged =
          let ts = tokens_from s t.next in
          let g : gate (two_judged d v i) last ts ≡ outlined (got_of two_tests (got (Items.dim v) ts)) = gates last ts (got (Items.dim v) ts) refl two_tests in
          let c : outlined (got_of two_tests (got (Items.dim v) ts)) ≡ outlined (check (dim_listed (Items.given v)) Refusal.Type i (check (dim_agrees x (Items.given v)) Refusal.Dimension i (pure (Items.dim v))) ts) =
          rw z in
          ap (λ k. gate k last ts) w ∙ g ∙ c ∙ ap outlined (taken_to s at _ q t e)

      pub two_refused : (b : Bad) → j ≡ Err b → SectAt s at (Err b) (outlined (two_end (length s) x v i (tokens_from s at)))
      two_refused b u = record { says = ap (λ k. gate k last (tokens_from s t.next)) (sym u) ∙ judged; ahead = tt }

      pub two_done : {n : Unit} → j ≡ Ok n → SectAt s at (taken (Met.Dim v) t.next) (outlined (two_end (length s) x v i (tokens_from s at)))
      two_done u = record { says = ap (λ k. gate k last (tokens_from s t.next)) (sym u) ∙ judged; ahead = taken_ahead s at t q e }

  -- ---- a section that is stepped over
  module _ (room : Keeps.Room) {r : Result ℕ Bad} (q : PastAt s at r (skip (length s) 0 (tokens_from s at))) where
    pub other_no : (b : Bad) → r ≡ Err b → SectAt s at (Err b) (outlined (other_of (length s) room (tokens_from s at)))
    unfolding other_of
    other_no b e = record { says = ap outlined (past_no s at _ q b e); ahead = tt }

    pub other_to : (n : ℕ) → r ≡ Ok n → SectAt s at (taken Met.Other n) (outlined (other_of (length s) room (tokens_from s at)))
    unfolding other_of
    other_to n e = record { says = ap outlined (past_to s at _ q n e); ahead = past_ahead s at n q e }
