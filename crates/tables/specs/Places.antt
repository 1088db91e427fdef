-- What is lent, in whole rows, and a zone record in words. Assumes nothing.
use Rattle.std.specs.Prelude.{ℕ, ◌/◌, min, List, [], ◌∷◌, Some}
use Rattle.mesh.specs.declared.Zone.{Zone}
use Rattle.mesh.specs.Rows.{places, face_words, cell_words, node_words}
use Rattle.sofar.specs.declared.Room.{Room}

-- six words a record: section id, zone, first, last, type, element
abbrev pub words_of : Zone → List ℕ
words_of z = z.section ∷ z.zone ∷ z.first ∷ z.last ∷ z.ztype ∷ z.element ∷ []

-- the room in slices of these lengths, as the code has it: whole rows, and of the two slices of nodes the smaller number counts
abbrev pub room_from : ℕ → ℕ → ℕ → ℕ → ℕ → Room
room_from m e f c n =
    record {
      nodes = Some (min (m / node_words) (e / node_words));
      cells = Some (c / cell_words);
      faces = Some (f / face_words places);
      zones = Some n;
    }
