-- The text is read back into any tables with as much room; writable tables are those that some text gives; different tables have different texts. Assumes nothing.
use Prim.Native.Nat.{ℕ, ◌+◌, ◌≤◌, ◌<◌}
use native.Mathlib.Omega.{arith}
use mathlib.Core.Path.{◌≡◌, refl, sym, ◌∙◌, ap, subst}
use mathlib.Core.Logic.{inl, inr, ◌↔◌}
use mathlib.Core.List.Memᴰ
use mathlib.Core.List.{List, [], ◌∷◌}
use lib.IntN.{pos}
use lib.ListN.{length}
use Rattle.sizes.specs.Sizes.{file_bytes}
use Rattle.tokens.specs.Listed.{tokens_of}
use Rattle.tokens.proofs.Text.{text_exactly}
use Rattle.layout.specs.Items.{Kind, node, cell, face, Item, dim, decl, part, other}
use Rattle.layout.specs.Keeps.{Some, SaysDim, Declares, parts_in}
use Rattle.layout.specs.Rows.{Lent, room_of, zones_of, mantissa_table, exponent_table, face_table, cell_table, Holds}
use Rattle.layout.specs.Says.{LaidText, Mesh}
use Rattle.layout.specs.Read.{filled, read_of}
use Rattle.layout.proofs.Pieces.{file_sized}
use Rattle.layout.proofs.Formed.{node_formed, face_formed, cell_formed}
use Rattle.layout.proofs.Room.{free, HasRoom, laid_room}
use Rattle.layout.proofs.Exactly.{zones_length, tables_hold, accepted_as, read_of_exactly}
use Rattle.texts.proofs.Laid.{text_file}
use Rattle.texts.specs.Tabled.{items_of}
use Rattle.texts.specs.Writable.{Writable, Given}
use Rattle.texts.specs.Same.{SameMesh}
use Rattle.texts.specs.Judged.{total_of}
use Rattle.texts.specs.Write.{mesh_text}
use Rattle.texts.proofs.Held.{held_again}
use Rattle.texts.proofs.Back.{parts_counted, mesh_laid, laid_once}
use Rattle.texts.proofs.Given.{given_writable}
use Rattle.texts.proofs.Same.{same_rows}

-- 18 exactly: writable are the tables that some text gives, whatever its length
pub writable_exactly : (m : Mesh) → Writable m ↔ Given m
unfolding items_of
writable_exactly m = (
  λ w. record {
    bytes = mesh_text m;
    tokens = tokens_of (mesh_text m);
    text = (text_exactly (mesh_text m) (tokens_of (mesh_text m))).0 refl;
    items = items_of m;
    old = m.held;
    laid = record { file = text_file (items_of m) w.writes; fits = w.fits; whole = w.whole };
    dimension = inl refl;
    nodes = inr (inl (refl, refl));
    faces = inr (inr (inr (inl (refl, refl))));
    cells = inl (inr (inr (inl (refl, refl))));
    zones = parts_counted m w;
    held = held_again m w.again;
    all = w.counted;
  },
  given_writable m,
)

-- the same mesh in other tables
abbrev pub over : Mesh → Lent → Mesh
over m l = record { dimension = m.dimension; nodes = m.nodes; faces = m.faces; cells = m.cells; zones = m.zones; held = l }

module _ (m : Mesh) where
  pub declared_in : (k : Kind) → Some (Declares k (total_of m k)) (items_of m)
  unfolding items_of
  declared_in node = inr (inl (refl, refl))
  declared_in cell = inr (inr (inl (refl, refl)))
  declared_in face = inr (inr (inr (inl (refl, refl))))

  dim_in : Some (SaysDim m.dimension) (items_of m)
  unfolding items_of
  dim_in = inl refl

-- ---- any two tables that hold the items of a writable mesh agree on it
module _ (m : Mesh) (w : Writable m) where
  same_held : (a b a' b' : Lent) → Holds (items_of m) a b → Holds (items_of m) a' b' → SameMesh (over m b) (over m b')
  same_held a b a' b' p q =
      let r = room_of m.held in
      let z = file_sized (text_file (items_of m) w.writes) in
      let tiled = w.whole.tiled in
      record {
        dimension = refl;
        nodes = refl;
        faces = refl;
        cells = refl;
        zones = refl;
        mantissas = same_rows (pos 0) mantissa_table (node_formed (λ x. x.mantissa)) r (items_of m) z w.fits p.mantissas q.mantissas m.nodes (tiled node m.nodes (declared_in m node)) (omega arith);
        exponents = same_rows (pos 0) exponent_table (node_formed (λ x. x.exponent)) r (items_of m) z w.fits p.exponents q.exponents m.nodes (tiled node m.nodes (declared_in m node)) (omega arith);
        face_rows = same_rows 0 face_table face_formed r (items_of m) z w.fits p.faces q.faces m.faces (tiled face m.faces (declared_in m face)) (omega arith);
        cell_rows = same_rows 0 cell_table cell_formed r (items_of m) z w.fits p.cells q.cells m.cells (tiled cell m.cells (declared_in m cell)) (omega arith);
        records = λ i l.
            let k : i < length (zones_of (items_of m)) = omega (arith, parts_counted m w, zones_length (items_of m)) in
            let here : 0 + i ≡ i = omega arith in
            let x = p.zones.there (record { at = 0; words = zones_of (items_of m) }) (Memᴰ.head refl) i k in
            let y = q.zones.there (record { at = 0; words = zones_of (items_of m) }) (Memᴰ.head refl) i k in
            rw here at (x ∙ sym y);
      }

  -- "Reading it, with as much room, gives back the same rows, records and dimension."
  module _ (l : length (mesh_text m) ≤ file_bytes) (old : Lent) (room : HasRoom (room_of old) (items_of m)) where
    laid_there : LaidText (room_of old) (mesh_text m) (items_of m)
    laid_there =
        let p = mesh_laid m w l in
        let f = ((laid_room (room_of m.held) p.tokens (items_of m)).0 p.laid).0 in
        record { short = p.short; tokens = p.tokens; text = p.text; laid = (laid_room (room_of old) p.tokens (items_of m)).1 (f, room) }

    pub read_there : read_of (mesh_text m) old ≡ accepted_as (over m (filled (items_of m) old))
    read_there =
        (read_of_exactly (mesh_text m) old (over m (filled (items_of m) old))).1
        (record {
          items = items_of m;
          laid = laid_there;
          dimension = dim_in m;
          nodes = declared_in m node;
          faces = declared_in m face;
          cells = inl (declared_in m cell);
          zones = parts_counted m w;
          held = tables_hold (mesh_text m) old (items_of m) laid_there;
        })

    pub same_there : SameMesh m (over m (filled (items_of m) old))
    same_there = same_held m.held m.held old (filled (items_of m) old) (held_again m w.again) (tables_hold (mesh_text m) old (items_of m) laid_there)

-- ---- "Exactly one text belongs to given tables": the text is a function of them; and one text belongs to no two
abbrev first_dim : List Item → ℕ
first_dim [] = 0
first_dim (dim n ∷ is) = n
first_dim (decl k h ∷ is) = 0
first_dim (part k h b ∷ is) = 0
first_dim (other ∷ is) = 0

abbrev last_in : List Item → ℕ
last_in [] = 0
last_in (dim n ∷ is) = 0
last_in (decl k h ∷ is) = h.last
last_in (part k h b ∷ is) = 0
last_in (other ∷ is) = 0

abbrev rest : List Item → List Item
rest [] = []
rest (i ∷ is) = is

module _ (m n : Mesh) (w : Writable m) (v : Writable n) (l : length (mesh_text m) ≤ file_bytes) (e : mesh_text m ≡ mesh_text n) where
  freely : (k : Mesh) → Writable k → length (mesh_text k) ≤ file_bytes → LaidText free (mesh_text k) (items_of k)
  freely k x y =
      let p = mesh_laid k x y in
      record { short = p.short; tokens = p.tokens; text = p.text; laid = ((laid_room (room_of k.held) p.tokens (items_of k)).0 p.laid).0 }

  items_same : items_of m ≡ items_of n
  items_same =
      laid_once free (mesh_text m) (items_of m) (items_of n) (freely m w l)
      (subst (λ s. LaidText free s (items_of n)) (sym e) (freely n v (subst (λ s. length s ≤ file_bytes) e l)))

  dims_are : (k : Mesh) → first_dim (items_of k) ≡ k.dimension
  unfolding items_of
  dims_are k = refl

  nodes_are : (k : Mesh) → last_in (rest (items_of k)) ≡ k.nodes
  unfolding items_of
  nodes_are k = refl

  cells_are : (k : Mesh) → last_in (rest (rest (items_of k))) ≡ k.cells
  unfolding items_of
  cells_are k = refl

  faces_are : (k : Mesh) → last_in (rest (rest (rest (items_of k)))) ≡ k.faces
  unfolding items_of
  faces_are k = refl

  pub text_once : SameMesh m n
  text_once =
      let h = same_held m w m.held m.held n.held n.held (held_again m w.again) (subst (λ is. Holds is n.held n.held) (sym items_same) (held_again n v.again)) in
      record {
        dimension = sym (dims_are m) ∙ ap first_dim items_same ∙ dims_are n;
        nodes = sym (nodes_are m) ∙ ap (λ x. last_in (rest x)) items_same ∙ nodes_are n;
        faces = sym (faces_are m) ∙ ap (λ x. last_in (rest (rest (rest x)))) items_same ∙ faces_are n;
        cells = sym (cells_are m) ∙ ap (λ x. last_in (rest (rest x))) items_same ∙ cells_are n;
        zones = parts_counted m w ∙ ap parts_in items_same ∙ sym (parts_counted n v);
        mantissas = h.mantissas;
        exponents = h.exponents;
        face_rows = h.face_rows;
        cell_rows = h.cell_rows;
        records = h.records;
      }
