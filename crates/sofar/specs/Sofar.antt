-- What the sections so far leave behind, by kind, and the count of a range. Assumes nothing.
use Rattle.std.specs.Prelude.{ℕ, suc, ◌-◌, true, false, ◌&&◌, leb, eqb, Option, Some, None}
use Rattle.spots.specs.declared.Kind.{Kind}
use Rattle.sofar.specs.declared.Seen.{Seen}
use Rattle.sofar.specs.declared.State.{State}
use Rattle.sofar.specs.declared.Room.{Room}

abbrev pub seen_of : State → Kind → Seen
seen_of x Kind.Node = x.nodes
seen_of x Kind.Cell = x.cells
seen_of x Kind.Face = x.faces

abbrev pub room_of : Room → Kind → Option ℕ
room_of r Kind.Node = r.nodes
room_of r Kind.Cell = r.cells
room_of r Kind.Face = r.faces

abbrev pub id_for : Kind → ℕ
id_for Kind.Node = 10
id_for Kind.Cell = 12
id_for Kind.Face = 13

abbrev pub kind_for_id : ℕ → Option Kind
kind_for_id n = elim (eqb n 10) [ true ↦ Some Kind.Node | false ↦ elim (eqb n 12) [ true ↦ Some Kind.Cell | false ↦ elim (eqb n 13) [ true ↦ Some Kind.Face | false ↦ None ] ] ]

abbrev pub count_for : ℕ → ℕ → ℕ
count_for f l = elim (leb 1 f && leb f l) [ true ↦ suc l - f | false ↦ 0 ]
