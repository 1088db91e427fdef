-- The text of writable tables says them; reading it gives them back; and no other tables have it. Assumes nothing.
use Prim.Native.Nat.{ℕ, ◌≤◌}
use mathlib.Core.Path.{◌≡◌, refl, sym, ◌∙◌, ap}
use mathlib.Core.Logic.{inl, inr}
use mathlib.Core.List.{List}
use lib.ListN.{length}
use Rattle.sizes.specs.Sizes.{file_bytes}
use Rattle.layout.specs.Items.{Item}
use Rattle.layout.specs.Keeps.{Room, parts_in}
use Rattle.layout.specs.Rows.{room_of}
use Rattle.layout.specs.Says.{LaidText, Mesh, Says}
use Rattle.layout.specs.Read.{read_of}
use Rattle.layout.proofs.Accepts.{answer_of_exactly}
use Rattle.layout.proofs.Exactly.{zones_length, accepted_as, read_of_exactly}
use Rattle.texts.proofs.Laid.{text_laid}
use Rattle.texts.specs.Tabled.{parts_of, items_of}
use Rattle.texts.specs.Writable.{Writable}
use Rattle.texts.specs.Write.{mesh_text}
use Rattle.texts.proofs.Held.{zones_same, held_again}

module _ (m : Mesh) (w : Writable m) where
  pub parts_counted : m.zones ≡ parts_in (items_of m)
  unfolding items_of
  parts_counted = w.counted ∙ sym (ap length (zones_same m.dimension m.held m.held.zones w.again)) ∙ zones_length (parts_of m.dimension m.held m.held.zones)

module _ (m : Mesh) (w : Writable m) (l : length (mesh_text m) ≤ file_bytes) where
  pub mesh_laid : LaidText (room_of m.held) (mesh_text m) (items_of m)
  mesh_laid = text_laid (room_of m.held) (items_of m) w.writes l w.fits w.whole

  -- the text says the tables
  pub mesh_says : Says (mesh_text m) m.held m
  unfolding items_of
  mesh_says =
      record {
        items = items_of m;
        laid = mesh_laid;
        dimension = inl refl;
        nodes = inr (inl (refl, refl));
        faces = inr (inr (inr (inl (refl, refl))));
        cells = inl (inr (inr (inl (refl, refl))));
        zones = parts_counted m w;
        held = held_again m w.again;
      }

  -- and read into them it changes nothing
  pub mesh_back : read_of (mesh_text m) m.held ≡ accepted_as m
  mesh_back = (read_of_exactly (mesh_text m) m.held m).1 mesh_says

-- a text is that of one list of items
pub laid_once : (room : Room) (s : List ℕ) (is js : List Item) → LaidText room s is → LaidText room s js → is ≡ js
laid_once room s is js p q =
    let e = sym ((answer_of_exactly room s is).1 p) ∙ (answer_of_exactly room s js).1 q in
    let z : is ≡ js = cc in z
