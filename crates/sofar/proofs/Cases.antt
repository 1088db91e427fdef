-- Closed cases of the functions that only our own crates call: the right answer, and what a wrong program would have answered there. Assumes nothing.
use Prim.Native.Nat.{◌-◌}
use Rattle.std.specs.Prelude.{Some, None}
use mathlib.Core.Path.{◌≡◌, refl}
use mathlib.Core.Bool.{true, false}
use Rattle.spots.specs.declared.Kind.{Kind}
use Rattle.sofar.specs.declared.State.{State}
use Rattle.sofar.specs.declared.Room.{Room}
use Rattle.sofar.specs.Sofar.{seen_of, room_of, id_for, kind_for_id, count_for}

-- behind "(2 2)(10 (0 1 4 0))(13 (0 1 3 0))"
abbrev before : State
before =
    record {
      dim = 2;
      nodes = record { declared = true; total = 4 };
      cells = record { declared = false; total = 0 };
      faces = record { declared = true; total = 3 };
      zones = 0;
    }

abbrev room : Room
room = record { nodes = Some 4; cells = Some 1; faces = Some 3; zones = Some 2 }

-- `seen`: cells declared by faces
seen_of_lem : (seen_of before Kind.Cell ≡ record { declared = false; total = 0 }) × (before.faces ≡ record { declared = true; total = 3 })
seen_of_lem = (refl, refl)

-- `rows`: faces given the room of zones
room_of_lem : (room_of room Kind.Face ≡ Some 3) × (room.zones ≡ Some 2)
room_of_lem = (refl, refl)

-- `id_of`: cells kept as faces
id_of_lem : (id_for Kind.Cell ≡ 12) × (id_for Kind.Face ≡ 13)
id_of_lem = (refl, refl)

-- `kind_of`: the id between nodes and cells taken for cells
kind_of : (kind_for_id 11 ≡ None) × (kind_for_id 12 ≡ Some Kind.Cell)
kind_of = (refl, refl)

-- `count_of`: the last row left out
count_of : (count_for 2 4 ≡ 3) × (4 - 2 ≡ 2)
count_of = (refl, refl)
