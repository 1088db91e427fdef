-- "with as much room": what tables must have to read a mesh's text into them. Assumes nothing.
use Prim.Native.Nat.{◌≤◌}
use mathlib.Core.Path.{sym, ◌∙◌, subst}
use lib.ListN.{length}
use Rattle.sizes.specs.Sizes.{file_bytes}
use Rattle.layout.specs.Items.{Kind}
use Rattle.layout.specs.Keeps.{room_for, Within, Some, Declares}
use Rattle.layout.specs.Rows.{Lent, room_of}
use Rattle.layout.specs.Says.{Mesh}
use Rattle.layout.specs.State.{start, per, after_all}
use Rattle.layout.proofs.Sums.{total_is}
use Rattle.layout.proofs.Each.{laid_seen}
use Rattle.layout.proofs.Room.{HasRoom}
use Rattle.texts.specs.Tabled.{items_of}
use Rattle.texts.specs.Writable.{Writable}
use Rattle.texts.specs.Judged.{total_of}
use Rattle.texts.specs.Same.{RoomFor}
use Rattle.texts.specs.Write.{mesh_text}
use Rattle.texts.proofs.ByKind.{all_kinds}
use Rattle.texts.proofs.Back.{parts_counted, mesh_laid}
use Rattle.texts.proofs.Once.{declared_in}

pub has_room_lem : (m : Mesh) (lent : Lent) → Writable m → length (mesh_text m) ≤ file_bytes → RoomFor m lent → HasRoom (room_of lent) (items_of m)
has_room_lem m lent w l r = record { tables = tables; list = rw (← parts_counted m w) r.zones }
  where
    total : (k : Kind) → Within (room_for (room_of lent) k) (total_of m k)
    total = all_kinds (λ k. Within (room_for (room_of lent) k) (total_of m k)) r.nodes r.cells r.faces

    -- one total of a kind at most
    tables : (k : Kind) (t : _) → Some (Declares k t) (items_of m) → Within (room_for (room_of lent) k) t
    tables k t d =
        let s = (laid_seen (room_of m.held) (mesh_laid m w l).laid).kinds k in
        let p = per (after_all start (items_of m)) k in
        subst (Within (room_for (room_of lent) k)) (sym (total_is (items_of m) k p s (total_of m k) (declared_in m k)).1 ∙ (total_is (items_of m) k p s t d).1) (total k)
