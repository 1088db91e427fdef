-- Reading with the zone records as numbers: what the covered call answers and leaves in the tables. Assumes nothing.
use Rattle.layout.specs.Replies.{accepts, refuses}
use Rattle.std.specs.Prelude.{ℕ, ◌/◌, min, List, [], ◌∷◌, ◌++◌, length, replicate, ℤ}
use Rattle.std.proofs.lemmas.List.Edits.{sets}
use Rattle.mesh.specs.declared.Zone.{Zone}
use Rattle.mesh.specs.Rows.{places, face_words, cell_words, node_words}
use Rattle.layout.specs.Replies.{Shown, shown}
use Rattle.layout.specs.Keeps.{most, Room}
use Rattle.layout.specs.Rows.{pieces_of, mantissa_table, exponent_table, face_table, cell_table, zones_of}
use Rattle.layout.specs.Read.{Answer, accepted, refused, answer_of, lay}
use Rattle.tables.specs.Places.{words_of}
use Rattle.filling.specs.declared.flat.Found.{Found}

-- the words of all records, one behind the other
abbrev pub flat_of : List Zone → List ℕ
flat_of [] = []
flat_of (z ∷ zs) = words_of z ++ flat_of zs

-- no record yet: six words for each of the sections that a file may have
abbrev pub blank : List ℕ
blank = replicate 384 0

-- the tables that are lent, the zone list aside
pub record Tables : Type 0 where
  pub mantissas : List ℤ
  pub exponents : List ℤ
  pub faces : List ℕ
  pub cells : List ℕ

pub record Core : Type 0 where
  pub found : Found
  pub held : Tables

-- with the paper's number and values of the answer
pub record Told : Type 0 where
  pub shown : Shown
  pub zones : ℕ
  pub flat : List ℕ
  pub held : Tables

abbrev pub told : Core → Told
told c = record { shown = shown c.found.reply; zones = c.found.zones; flat = c.found.flat; held = c.held }

abbrev pub room_with : Tables → ℕ → Room
room_with t n =
    record {
      nodes = most (min (length t.mantissas / node_words) (length t.exponents / node_words));
      cells = most (length t.cells / cell_words);
      faces = most (length t.faces / face_words places);
      zones = most n;
    }

abbrev pub core_by : Answer → Tables → Core
core_by (accepted x is) t =
    record {
      found = record {
        reply = accepts x.dimension x.nodes.total x.faces.total x.cells.total x.zones;
        zones = x.zones;
        flat = sets blank 0 (flat_of (zones_of is));
      };
      held = record {
        mantissas = lay (pieces_of mantissa_table is) t.mantissas;
        exponents = lay (pieces_of exponent_table is) t.exponents;
        faces = lay (pieces_of face_table is) t.faces;
        cells = lay (pieces_of cell_table is) t.cells;
      };
    }
core_by (refused w k o) t = record { found = record { reply = refuses w k o; zones = 0; flat = blank }; held = t }

-- n zone records may be kept
unfoldable pub core_of : List ℕ → ℕ → Tables → Core
core_of s n t = core_by (answer_of (room_with t n) s) t
