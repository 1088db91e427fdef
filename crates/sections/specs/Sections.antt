-- Sections with their bodies left out, and the code's answers as theirs. Assumes nothing.
use Rattle.std.specs.Prelude.{ℕ, List, Bool, eqb, Result, Ok, Err}
use Rattle.layout.specs.declared.Refusal.{Refusal}
use Rattle.layout.specs.Items as Items
use Rattle.layout.specs.Keeps as Keeps
use Rattle.layout.specs.State as St
use Rattle.layout.specs.State.{Span, every, clear, dim_after, dim_listed, dim_agrees}
use Rattle.layout.specs.Reading.{Got, got, bad, Reader, next, ◌>>◌, pure, check, choose, right_of}
use Rattle.layout.specs.Sections.{header_of, body_of, two_of, kind_of, other_of}
use Rattle.spots.specs.declared.Kind.{Kind}
use Rattle.spots.specs.declared.Head.{Head}
use Rattle.sofar.specs.declared.Room.{Room}
use Rattle.spots.specs.declared.Bad.{Bad}
use Rattle.notes.specs.declared.note.Met.{Met}
use Rattle.facts.specs.declared.Taken.{Taken}
use Rattle.spots.specs.Pasts.{taken_view, TakenAt}
use Rattle.spots.specs.Heads.{kind_for, fifth_for, head_for}
use Rattle.bodies.specs.Bodies.{forget}
use Rattle.ranges.specs.Ranges.{limit_for}
use Rattle.dims.specs.Dims.{dim_word_for, agrees}
use Rattle.judging.specs.Judging.{test}
use Rattle.sofar.specs.Sofar.{id_for, count_for}

-- an item without its body
pub data Outline : Type 0 where
  dim : ℕ → Outline
  decl : Items.Kind → Items.Header → Outline
  part : Items.Kind → Items.Header → Outline
  other : Outline

abbrev pub outline_of : Items.Item → Outline
outline_of (Items.dim n) = dim n
outline_of (Items.decl k h) = decl k h
outline_of (Items.part k h b) = part k h
outline_of Items.other = other

abbrev pub outlined : Got Items.Item → Got Outline
outlined (got i us) = got (outline_of i) us
outlined (bad w o) = bad w o

abbrev pub met_for : Met → Outline
met_for (Met.Dim n) = dim n
met_for (Met.Decl k h) = decl (kind_for k) (header_of (head_for h))
met_for (Met.Part k h) = part (kind_for k) (header_of (head_for h))
met_for Met.Other = other

abbrev pub sect_view : List ℕ → Result (Taken Met) Bad → Got Outline
sect_view = taken_view met_for

abbrev pub SectAt : List ℕ → ℕ → Result (Taken Met) Bad → Got Outline → Type 0
SectAt = TakenAt met_for

-- ---- the state and the room
abbrev pub room_all : Room → Keeps.Room
room_all r = record { nodes = limit_for r.nodes; cells = limit_for r.cells; faces = limit_for r.faces; zones = limit_for r.zones }

-- clear of what the first z sections of the kind cover
module _ (spans : ℕ → ℕ → List Span) where
  abbrev pub clear_for : Kind → ℕ → Head → Bool
  clear_for k z h = every (clear h.first.value h.last.value) (spans (id_for k) z)

-- ---- what is left of a section
-- what a judgement lets through
abbrev pub gate : {A : Type 0} → Result Unit Bad → Reader A → Reader A
gate (Ok u) k ts = k ts
gate (Err b) k ts = bad b.why b.offset

abbrev pub ended : ℕ → Met → Reader Outline
ended size m = do
  right_of size
  pure (met_for m)

abbrev pub body_ended : ℕ → Kind → ℕ → Head → Reader Outline
body_ended size k d h ts =
    next (forget (body_of size (kind_for k) (dim_after d (fifth_for (dim_word_for k h.fifth))) (count_for h.first.value h.last.value) (fifth_for h.fifth) ts)) (λ u. ended size (Met.Part k h))

abbrev pub two_judged : ℕ → ℕ → ℕ → Result Unit Bad
two_judged d n o = test (dim_listed (Items.given n)) Refusal.Type o (test (agrees d (Items.given n)) Refusal.Dimension o (Ok tt))

abbrev pub two_end : ℕ → St.State → ℕ → ℕ → Reader Items.Item
two_end size x v i = do
  right_of size
  check (dim_listed (Items.given v)) Refusal.Type i do
    check (dim_agrees x (Items.given v)) Refusal.Dimension i do
      pure (Items.dim v)

-- a section behind its id
abbrev pub by_id : ℕ → Keeps.Room → ℕ → St.State → Reader Items.Item
by_id size room id x =
    choose (eqb id 2) (two_of size x) (choose (eqb id 10) (kind_of size room Items.node x) (choose (eqb id 12) (kind_of size room Items.cell x) (choose (eqb id 13) (kind_of size room Items.face x) (other_of size room))))
