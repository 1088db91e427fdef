-- [02:M-101]. What reading leaves can be written: its records lent, it is never 18. Assumes nothing.
use Prim.Native.Nat.{ℕ, ◌+◌, ◌≤◌, ◌<◌}
use native.Mathlib.Omega.{arith}
use mathlib.Core.Path.{◌≡◌, refl, sym, ◌∙◌, ap}
use mathlib.Core.List.Memᴰ
use mathlib.Core.List.{List, Memᴰ}
use mathlib.Core.Bool.{true}
use lib.ListN.{length, take, get_or-eq_default}
use lib.Seq.{get_or-take, length-take-le}
use Rattle.facts.proofs.Branch.{differ}
use Rattle.facts.proofs.Decides.{either_of}
use Rattle.mesh.specs.declared.Zone.{Zone}
use Rattle.layout.specs.Items.{Kind, node, cell, face}
use Rattle.layout.specs.Keeps.{room_for, Within, Some, Declares}
use Rattle.layout.specs.Rows.{Piece, Holding, zones_of, zone_pieces, no_zone, Lent, room_of}
use Rattle.layout.specs.Says.{Mesh, Says}
use Rattle.layout.specs.Read.{read_of}
use Rattle.layout.proofs.Room.{HasRoom, laid_has_room, laid_room}
use Rattle.layout.proofs.Exactly.{zones_length, accepted_as, read_of_exactly}
use Rattle.texts.specs.Writable.{Given}
use Rattle.texts.specs.Same.{SameMesh, RoomFor, cut_to, lent_as}
use Rattle.texts.specs.Judged.{writable_of}
use Rattle.texts.specs.Write.{write_of}
use Rattle.texts.proofs.Written.{written_exactly}
use Rattle.texts.proofs.Same.{same_trans}
use Rattle.texts.proofs.Write.{write_number, write_back}

module _ {s : List ℕ} {old : Lent} {m : Mesh} (p : Says s old m) where
  room : HasRoom (room_of old) p.items
  room = laid_has_room (room_of old) p.laid.laid

  old_cut : length (take m.zones old.zones) ≡ m.zones
  old_cut = length-take-le m.zones old.zones (omega (arith, room.list, p.zones))

  new_cut : length (take m.zones m.held.zones) ≡ m.zones
  new_cut = length-take-le m.zones m.held.zones (omega (arith, room.list, p.zones, p.held.zones.size))

  -- the tables have the room that they had, the list as much as is asked
  room_cut : HasRoom (room_of (cut_to m.zones old)) p.items
  room_cut = record { tables = tables; list = omega (arith, old_cut, p.zones) }
    where
      tables : (k : Kind) (t : ℕ) → Some (Declares k t) p.items → Within (room_for (room_of (cut_to m.zones old)) k) t
      tables node t d = room.tables node t d
      tables cell t d = room.tables cell t d
      tables face t d = room.tables face t d

  zones_cut : Holding no_zone (zone_pieces p.items) (take m.zones old.zones) (take m.zones m.held.zones)
  zones_cut =
      record {
        size = new_cut ∙ sym old_cut;
        there = λ q n j l.
            let e = only q n in
            let near : q.at + j < m.zones = omega (arith, l, ap (λ (x : Piece Zone). x.at) e, ap (λ (x : Piece Zone). length x.words) e, p.zones, zones_length p.items) in
            get_or-take m.zones m.held.zones (q.at + j) no_zone near ∙ p.held.zones.there q n j l;
        stays = λ k away.
            let far : m.zones ≤ k = either_of (away (record { at = 0; words = zones_of p.items }) (Memᴰ.head refl)) (λ b. absurd (omega arith)) (λ b. omega (arith, b, p.zones, zones_length p.items)) in
            get_or-eq_default (take m.zones m.held.zones) no_zone {n = k} (omega (arith, new_cut))
            ∙ sym (get_or-eq_default (take m.zones old.zones) no_zone {n = k} (omega (arith, old_cut)));
      }
    where
      only : (q : Piece Zone) → Memᴰ q (zone_pieces p.items) → q ≡ record { at = 0; words = zones_of p.items }
      only q n = either_of (Memᴰ.cases_cons n) (λ e. e) (λ t. absurd (Memᴰ.not-nil t))

  given_cut : Given (lent_as m)
  given_cut =
      record {
        bytes = s;
        tokens = p.laid.tokens;
        text = p.laid.text;
        items = p.items;
        old = cut_to m.zones old;
        laid = (laid_room (room_of (cut_to m.zones old)) p.laid.tokens p.items).1 (((laid_room (room_of old) p.laid.tokens p.items).0 p.laid.laid).0, room_cut);
        dimension = p.dimension;
        nodes = p.nodes;
        faces = p.faces;
        cells = p.cells;
        zones = p.zones;
        held = record { mantissas = p.held.mantissas; exponents = p.held.exponents; faces = p.held.faces; cells = p.held.cells; zones = zones_cut };
        all = sym new_cut;
      }

  pub says_writable : writable_of (lent_as m) ≡ true
  says_writable = (written_exactly (lent_as m) (sym new_cut)).1 given_cut

-- what reading leaves is never 18
pub read_writable : (s : List ℕ) (old : Lent) (m : Mesh) → read_of s old ≡ accepted_as m → (text : List ℕ) → (write_of (lent_as m) text).answer.number ≡ 18 → ⊥
read_writable s old m e text n = differ (writable_of (lent_as m)) (says_writable ((read_of_exactly s old m).0 e)) ((write_number (lent_as m) text).0 n)

-- lent so, it is the same mesh
pub lent_same : (m : Mesh) → SameMesh m (lent_as m)
lent_same m =
    record {
      dimension = refl;
      nodes = refl;
      faces = refl;
      cells = refl;
      zones = refl;
      mantissas = λ i l. refl;
      exponents = λ i l. refl;
      face_rows = λ i l. refl;
      cell_rows = λ i l. refl;
      records = λ i l. sym (get_or-take m.zones m.held.zones i no_zone l);
    }

-- what was read, written and read again is the same mesh
pub read_write_read : (s : List ℕ) (old : Lent) (m : Mesh) → read_of s old ≡ accepted_as m → (text : List ℕ) → (write_of (lent_as m) text).answer.number ≡ 0
    → (lent : Lent) → RoomFor m lent
    → (new : Mesh) × (read_of (take (write_of (lent_as m) text).answer.bytes (write_of (lent_as m) text).text) lent ≡ accepted_as new) × SameMesh m new
read_write_read s old m e text n lent r =
    let c = sym (new_cut ((read_of_exactly s old m).0 e)) in
    let (new, read, same) = write_back (lent_as m) text c n lent (record { nodes = r.nodes; faces = r.faces; cells = r.cells; zones = r.zones }) in
    (new, read, same_trans m (lent_as m) new (lent_same m) same)
