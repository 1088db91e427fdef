-- A file is accepted exactly when it says a mesh and there is room for it, and then it is that mesh. Assumes nothing.
use Rattle.std.specs.Prelude.{Ok}
use Rattle.layout.specs.declared.Accepted.{Accepted}
use Rattle.layout.specs.Replies.{Reply, accepts}
use Prim.Native.Nat.{ℕ, suc, ◌*◌, ◌/◌, ◌≤◌}
use native.Mathlib.Nat.{mul-le-mul_left, mul-div-le, min-le_left, min-le_right}
use native.Mathlib.Omega.{arith}
use mathlib.Core.Path.{◌≡◌, refl, sym, ◌∙◌, ap}
use mathlib.Core.Logic.{◌↔◌, inl, inr}
use mathlib.Core.List.Memᴰ
use mathlib.Core.List.{List, [], ◌∷◌}
use mathlib.Core.Bool.{Bool, true, false}
use borrow.Author.Tests.{not-true}
use lib.IntN.{pos}
use lib.ListN.{length}
use Rattle.mesh.specs.Rows.{places, face_words, cell_words, node_words}
use Rattle.layout.specs.Items.{Kind, node, cell, face, Item, dim, decl, part, other}
use Rattle.layout.specs.Keeps.{room_for, Within, Some, Declares, parts_in}
use Rattle.layout.specs.Rows.{Table, Holding, pieces_of, mantissa_table, exponent_table, face_table, cell_table, zones_of, zone_pieces, no_zone, Lent, room_of, Holds}
use Rattle.layout.specs.Says.{LaidText, Mesh, CellsAre, Says}
use Rattle.layout.specs.State.{State, start, per, after_all}
use Rattle.layout.specs.Read.{Answer, accepted, refused, answer_of, lay, filled, Result, result_of, read_of}
use Rattle.layout.proofs.Dims.{dim_is}
use Rattle.layout.proofs.Sums.{Seen, total_is, declared_is}
use Rattle.layout.proofs.Each.{parted_each, laid_seen}
use Rattle.layout.proofs.Formed.{Formed, node_formed, face_formed, cell_formed}
use Rattle.layout.proofs.Laying.{lay_holds, holding_one}
use Rattle.layout.proofs.Pieces.{file_sized, pieces_good}
use Rattle.layout.proofs.Room.{HasRoom, laid_has_room}
use Rattle.layout.proofs.Accepts.{laid_of, answer_of_lem, stated}

-- ---- room
div_room : (w l n : ℕ) → n ≤ l / w → w * n ≤ l
div_room w l n h = omega (arith, mul-le-mul_left {m = n} {n = l / w} w h, mul-div-le l w)

pub zones_length : (is : List Item) → length (zones_of is) ≡ parts_in is
zones_length [] = refl
zones_length (dim n ∷ is) = zones_length is
zones_length (decl k h ∷ is) = zones_length is
zones_length (part k h b ∷ is) = ap suc (zones_length is)
zones_length (other ∷ is) = zones_length is

-- the reader's result when it accepts a mesh
abbrev pub accepted_as : Mesh → Result
accepted_as m = record { reply = accepts m.dimension m.nodes m.faces m.cells m.zones; held = m.held }

module _ (s : List ℕ) (old : Lent) where
  module _ (is : List Item) (l : LaidText (room_of old) s is) where
    has_room_lem : HasRoom (room_of old) is
    has_room_lem = laid_has_room (room_of old) l.laid

    abbrev end : State
    end = after_all start is

    seen : Seen is end
    seen = laid_seen (room_of old) l.laid

    -- ---- tables
    table_holds : {A : Type 0} (d : A) (t : Table A) → Formed t → (rows : List A)
        → ((n : ℕ) → Within (room_for (room_of old) t.kind) n → t.width * n ≤ length rows)
        → Holding d (pieces_of t is) rows (lay (pieces_of t is) rows)
    table_holds d t f rows r =
        let e = parted_each (room_of old) [] is l.laid.fits in
        let g = pieces_good d t f (length rows) (room_of old) is (λ n y. r n (has_room_lem.tables t.kind n y)) [] is refl e (file_sized l.laid.file) in
        lay_holds d (pieces_of t is) rows g

    list_holds : Holding no_zone (zone_pieces is) old.zones (lay (zone_pieces is) old.zones)
    list_holds =
        lay_holds no_zone (zone_pieces is) old.zones
        (omega (arith, zones_length is, has_room_lem.list), λ q m. absurd (Memᴰ.not-nil m), tt)

    node_room : (n : ℕ) → Within (room_for (room_of old) node) n → (node_words * n ≤ length old.mantissas) × (node_words * n ≤ length old.exponents)
    node_room n h =
        let a = length old.mantissas / node_words in
        let b = length old.exponents / node_words in
        (div_room node_words _ n (omega (arith, min-le_left a b, h)), div_room node_words _ n (omega (arith, min-le_right a b, h)))

    pub tables_hold : Holds is old (filled is old)
    tables_hold =
        record {
          mantissas = table_holds (pos 0) mantissa_table (node_formed (λ p. p.mantissa)) old.mantissas (λ n h. (node_room n h).0);
          exponents = table_holds (pos 0) exponent_table (node_formed (λ p. p.exponent)) old.exponents (λ n h. (node_room n h).1);
          faces = table_holds 0 face_table face_formed old.faces (div_room (face_words places) (length old.faces));
          cells = table_holds 0 cell_table cell_formed old.cells (div_room cell_words (length old.cells));
          zones = list_holds;
        }

    -- ---- numbers
    total_one : (k : Kind) (n : ℕ) → Some (Declares k n) is → (per end k).total ≡ n
    total_one k n h = (total_is is k (per end k) (seen.kinds k) n h).1

    cells_one : (n : ℕ) → CellsAre is n → end.cells.total ≡ n
    cells_one n (inl h) = total_one cell n h
    cells_one n (inr h) = (seen.kinds cell).zero_total (not-true end.cells.declared ((seen.kinds cell).free.1 h.0)) ∙ sym h.1

    cells_are : CellsAre is end.cells.total
    cells_are = by_declared end.cells.declared refl
      where
        by_declared : (b : Bool) → end.cells.declared ≡ b → CellsAre is end.cells.total
        by_declared true e = inl (declared_is is cell end.cells (seen.kinds cell) e)
        by_declared false e = inr ((seen.kinds cell).free.0 (rw e), (seen.kinds cell).zero_total e)

    abbrev mesh : Mesh
    mesh =
        record {
          dimension = end.dimension;
          nodes = end.nodes.total;
          faces = end.faces.total;
          cells = end.cells.total;
          zones = end.zones;
          held = filled is old;
        }

    says : Says s old mesh
    says =
        let w = l.laid.whole in
        record {
          items = is;
          laid = l;
          dimension = rw (dim_is seen.dims w.dimension w.known).0 w.known;
          nodes = rw (total_one node w.nodes w.nodes_declared) w.nodes_declared;
          faces = rw (total_one face w.faces w.faces_declared) w.faces_declared;
          cells = cells_are;
          zones = seen.zones;
          held = tables_hold;
        }

  held_one : (is : List Item) (a b : Lent) → Holds is old a → Holds is old b → a ≡ b
  held_one is a b p q =
      let m = holding_one (pos 0) (pieces_of mantissa_table is) old.mantissas a.mantissas b.mantissas p.mantissas q.mantissas in
      let e = holding_one (pos 0) (pieces_of exponent_table is) old.exponents a.exponents b.exponents p.exponents q.exponents in
      let f = holding_one 0 (pieces_of face_table is) old.faces a.faces b.faces p.faces q.faces in
      let c = holding_one 0 (pieces_of cell_table is) old.cells a.cells b.cells p.cells q.cells in
      let z = holding_one no_zone (zone_pieces is) old.zones a.zones b.zones p.zones q.zones in
      λ i. record { mantissas = m i; exponents = e i; faces = f i; cells = c i; zones = z i }

  says_is : (m : Mesh) (p : Says s old m) → m ≡ mesh p.items p.laid
  says_is m p =
      let is = p.items in
      let l = p.laid in
      let d = (dim_is (seen is l).dims m.dimension p.dimension).0 in
      let n = total_one is l node m.nodes p.nodes in
      let f = total_one is l face m.faces p.faces in
      let c = cells_one is l m.cells p.cells in
      let z = p.zones ∙ sym (seen is l).zones in
      let h = held_one is m.held (filled is old) p.held (tables_hold is l) in
      λ i. record { dimension = sym d i; nodes = sym n i; faces = sym f i; cells = sym c i; zones = z i; held = h i }

  accepted_one : (m n : Mesh) → accepted_as m ≡ accepted_as n → m ≡ n
  accepted_one m n e =
      let r = ap (λ (x : Result). x.reply) e in
      let same = said r in
      let d = ap (λ (x : Accepted). x.dim) same in
      let a = ap (λ (x : Accepted). x.nodes) same in
      let f = ap (λ (x : Accepted). x.faces) same in
      let c = ap (λ (x : Accepted). x.cells) same in
      let z = ap (λ (x : Accepted). x.zones) same in
      let h = ap (λ (x : Result). x.held) e in
      λ i. record { dimension = d i; nodes = a i; faces = f i; cells = c i; zones = z i; held = h i }
    where
      said : {a b : Accepted} → ◌≡◌ {A = Reply} (Ok a) (Ok b) → a ≡ b
      said e = cc

  mesh_of_lem : (x : State) (is : List Item) (m : Mesh) → result_of (accepted x is) old ≡ accepted_as m → x ≡ after_all start is
      → (l : LaidText (room_of old) s is) → mesh is l ≡ m
  mesh_of_lem x is m e q l = accepted_one (mesh is l) m (ap (λ y. result_of (accepted y is) old) (sym q) ∙ e)

  accepted_says : (m : Mesh) (a : Answer) → answer_of (room_of old) s ≡ a → result_of a old ≡ accepted_as m → Says s old m
  accepted_says m (accepted x is) e q =
      let l = laid_of (room_of old) s x is e in
      rw (mesh_of_lem x is m q (stated (room_of old) s x is e) l) at (says is l)
  accepted_says m (refused w k o) e q = absurd (let z = ap (λ (r : Result). r.reply) q in let y : ◌≡◌ {A = ℕ} 0 1 = cc in omega arith)

  -- THE THEOREM
  pub read_of_exactly : (m : Mesh) → (read_of s old ≡ accepted_as m) ↔ Says s old m
  unfolding read_of
  read_of_exactly m = (
    λ e. accepted_says m (answer_of (room_of old) s) refl e,
    λ p. rw (says_is m p) (ap (λ a. result_of a old) (answer_of_lem (room_of old) s p.items p.laid)),
  )

  -- a file says one mesh at most
  pub one_mesh : (m n : Mesh) → Says s old m → Says s old n → m ≡ n
  one_mesh m n p q = accepted_one m n (sym ((read_of_exactly m).1 p) ∙ (read_of_exactly n).1 q)
