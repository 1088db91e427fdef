-- What is kept of a section that was met. Assumes nothing.
use Rattle.std.specs.Prelude.{ℕ, suc, List, true, false, ltb, set}
use Rattle.sizes.specs.Sizes.{zones}
use Rattle.layout.specs.State.{dim_after}
use Rattle.spots.specs.declared.Kind.{Kind}
use Rattle.spots.specs.declared.Head.{Head}
use Rattle.kept.specs.declared.Kept.{Kept}
use Rattle.kept.specs.Kept.{Listed}
use Rattle.sofar.specs.declared.Seen.{Seen}
use Rattle.sofar.specs.declared.State.{State}
use Rattle.notes.specs.declared.note.Met.{Met}
use Rattle.spots.specs.Heads.{fifth_for}
use Rattle.dims.specs.Dims.{dim_word_for}
use Rattle.sofar.specs.Sofar.{id_for}

-- one regular section more; there are never more than the limit
abbrev pub more : ℕ → ℕ
more z = elim (ltb z zones) [ true ↦ suc z | false ↦ z ]

abbrev pub declares : ℕ → Seen
declares t = record { declared = true; total = t }

abbrev pub with_total : State → Kind → ℕ → ℕ → State
with_total x Kind.Node t d = record x { dim = d; nodes = declares t }
with_total x Kind.Cell t d = record x { dim = d; cells = declares t }
with_total x Kind.Face t d = record x { dim = d; faces = declares t }

abbrev pub dim_with : State → Kind → Head → ℕ
dim_with x k h = dim_after x.dim (fifth_for (dim_word_for k h.fifth))

abbrev pub note_state : State → Met → State
note_state x (Met.Dim n) = record x { dim = n }
note_state x (Met.Decl k h) = with_total x k h.last.value (dim_with x k h)
note_state x (Met.Part k h) = record x { dim = dim_with x k h; zones = more x.zones }
note_state x Met.Other = x

abbrev pub kept_as : Kind → Head → Kept
kept_as k h = record { id = id_for k; first = h.first.value; last = h.last.value }

-- the three lists, z sections being in them
abbrev pub note_id : Met → ℕ → List ℕ → List ℕ
note_id (Met.Dim n) z l = l
note_id (Met.Decl k h) z l = l
note_id (Met.Part k h) z l = set l z (id_for k)
note_id Met.Other z l = l

abbrev pub note_first : Met → ℕ → List ℕ → List ℕ
note_first (Met.Dim n) z l = l
note_first (Met.Decl k h) z l = l
note_first (Met.Part k h) z l = set l z h.first.value
note_first Met.Other z l = l

abbrev pub note_last : Met → ℕ → List ℕ → List ℕ
note_last (Met.Dim n) z l = l
note_last (Met.Decl k h) z l = l
note_last (Met.Part k h) z l = set l z h.last.value
note_last Met.Other z l = l

abbrev pub note_kept : Met → ℕ → Listed → Listed
note_kept m z l = record { ids = note_id m z l.ids; firsts = note_first m z l.firsts; lasts = note_last m z l.lasts }

-- and the list of the places, the section's being p
abbrev pub note_place : Met → ℕ → ℕ → List ℕ → List ℕ
note_place (Met.Dim n) z p l = l
note_place (Met.Decl k h) z p l = l
note_place (Met.Part k h) z p l = set l z p
note_place Met.Other z p l = l
