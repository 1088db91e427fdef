-- What the code puts is the text of the mesh; and of a writable mesh all can be put. Assumes nothing.
use Prim.Native.Nat.{ℕ, suc, ◌≤◌}
use native.Mathlib.Omega.{arith}
use mathlib.Core.Path.{◌≡◌, refl, sym, ◌∙◌, ap, subst}
use mathlib.Core.List.{List, [], ◌∷◌, ◌++◌, map, append_assoc}
use lib.ListN.{length, get_or}
use Rattle.figures.specs.Figures.{figure, figures_on, figures}
use Rattle.mesh.specs.declared.Zone.{Zone}
use Rattle.mesh.specs.Rows.{places}
use Rattle.facts.proofs.Decides.{either_of}
use Rattle.texts.specs.Pieces.{Piece, shuts, feed, bytes_of}
use Rattle.layout.specs.Items.{Kind, node, cell, face, id_of, Perhaps, Facet, facets, Item, dim}
use Rattle.layout.specs.Keeps.{Room, FifthOf, PartFits, Fits}
use Rattle.layout.proofs.FaceRows.{same_few}
use Rattle.layout.proofs.Each.{Each as EachFits, parted_each}
use Rattle.layout.specs.Rows.{Lent, room_of}
use Rattle.layout.specs.Says.{Mesh}
use Rattle.texts.specs.Texts.{item_text, items_text, text_of}
use Rattle.texts.specs.Writes.{Each, FacetIs, MixedIs, BodyWrites, mixed_faces, same_faces, Writes}
use Rattle.texts.specs.Tabled.{facet_of, body_of, head_of, section_for, part_of, parts_of, decl_of, items_of}
use Rattle.texts.specs.Writable.{FaceAgain, RowsAgain, ZoneAgain, Writable}
use Rattle.texts.proofs.Held.{part_is}
use Rattle.texts.specs.Write.{mesh_text, records_in}
use Rattle.writer.specs.declared.tables.Totals.{Totals}
use Rattle.writer.specs.Writer.{lent}
use Rattle.writer.specs.inner.Rows.{head_bytes, SomeCorners}
use Rattle.writer.specs.inner.Sections.{part_rows, decl_bytes, section_bytes, parts_bytes, mesh_bytes, Puttable, AllPuttable}
use Rattle.writer.proofs.Writing.{head_bytes_lem}
use Rattle.writer.proofs.Sections.{node_section_lem, cell_section_lem, face_section_lem, as_kind}

-- all of it but the records
abbrev pub rows_only : Lent → Lent
rows_only l = lent l.mantissas l.exponents l.faces l.cells []

module _ (d : ℕ) (l : Lent) where
  section_is : (k : Kind) (z : Zone) → z.section ≡ id_of k → (ps : List Piece)
      → bytes_of (item_text (section_for k d l z) ps) ≡ section_bytes d (rows_only l) z ++ bytes_of ps
  section_is node z e ps = node_section_lem d l z ps ∙ ap (λ b. b ++ bytes_of ps) (as_kind d (rows_only l) z node e)
  section_is cell z e ps = cell_section_lem d l z ps ∙ ap (λ b. b ++ bytes_of ps) (as_kind d (rows_only l) z cell e)
  section_is face z e ps = face_section_lem d l z ps ∙ ap (λ b. b ++ bytes_of ps) (as_kind d (rows_only l) z face e)

  parts_bytes_lem : (zs : List Zone) → Each (ZoneAgain d l) zs → bytes_of (items_text (parts_of d l zs)) ≡ parts_bytes d (rows_only l) zs
  unfolding parts_bytes
  parts_bytes_lem [] a = refl
  parts_bytes_lem (z ∷ zs) a =
      let ps = items_text (parts_of d l zs) in
      ap (λ i. bytes_of (item_text i ps)) (part_is a.0.kind d l z a.0.section) ∙ section_is a.0.kind z a.0.section ps
      ∙ ap (λ b. section_bytes d (rows_only l) z ++ b) (parts_bytes_lem zs a.1)

decl_is : (k : Kind) (t v : ℕ) (ps : List Piece) → bytes_of (item_text (decl_of k t v) ps) ≡ decl_bytes (id_of k) t v ++ bytes_of ps
decl_is k t v ps = head_bytes_lem (id_of k) _ v (shuts ∷ feed ∷ ps) refl ∙ sym (append_assoc (head_bytes (id_of k) 0 1 t 0 v) (41 ∷ 10 ∷ []) (bytes_of ps))

abbrev pub totals_of : Mesh → Totals
totals_of m = record { dimension = m.dimension; nodes = m.nodes; faces = m.faces; cells = m.cells }

-- the bytes that the code puts are the mesh's text
pub mesh_bytes_lem : (m : Mesh) (flat : List ℕ) → m.held.zones ≡ records_in flat → Each (ZoneAgain m.dimension m.held) m.held.zones
    → mesh_text m ≡ mesh_bytes (totals_of m) (rows_only m.held) flat
unfolding text_of items_of mesh_bytes figure figures_on figures
mesh_bytes_lem m flat e a =
    let d = m.dimension in
    let l = m.held in
    let ps = items_text (parts_of d l l.zones) in
    let p₃ = item_text (decl_of face m.faces 0) ps in
    let p₂ = item_text (decl_of cell m.cells 0) p₃ in
    let q : bytes_of ps ≡ parts_bytes d (rows_only l) (records_in flat) =
    parts_bytes_lem d l l.zones a ∙ ap (parts_bytes d (rows_only l)) e in
    ap (λ b. 40 ∷ 50 ∷ 32 ∷ (figures 16 d ++ (41 ∷ 10 ∷ b)))
    (decl_is node m.nodes d p₂ ∙ ap (λ b. decl_bytes 10 m.nodes d ++ b)
    (decl_is cell m.cells 0 p₃ ∙ ap (λ b. decl_bytes 12 m.cells 0 ++ b)
    (decl_is face m.faces 0 ps ∙ ap (λ b. decl_bytes 13 m.faces 0 ++ b) q)))

-- ---- of a writable mesh all can be put
Some4 : Facet → Type 0
Some4 f = (1 ≤ length f.corners) × (length f.corners ≤ places)

plain_some : (c : ℕ) → 1 ≤ c → c ≤ places → (fs : List Facet) → Each (FacetIs c) fs → Each Some4 fs
unfolding Some4
plain_some c p q [] h = tt
plain_some c p q (f ∷ fs) h = ((omega (arith, h.0.0), omega (arith, h.0.0)), plain_some c p q fs h.1)

mixed_some : (fs : List Facet) → Each MixedIs fs → Each Some4 fs
unfolding Some4
mixed_some [] h = tt
mixed_some (f ∷ fs) h = ((omega (arith, h.0.0), h.0.1), mixed_some fs h.1)

faces_some : {n : ℕ} {v : Perhaps} {fs : List Facet} → BodyWrites face n v (facets fs) → FifthOf face v → Each Some4 fs
faces_some (mixed_faces {fs} h) f = mixed_some fs h
faces_some (same_faces {c} {fs} h) f = plain_some (suc c) (omega arith) (same_few (suc c) f) fs h

rows_some : (t : ℕ) (rs : List (List ℕ)) → Each (FaceAgain t) rs → Each Some4 (map facet_of rs) → Each SomeCorners rs
unfolding Some4
rows_some t [] a s = tt
rows_some t (r ∷ rs) a s =
    let e : length (facet_of r).corners ≡ get_or r 0 0 = ap (λ x. get_or x 0 0) a.0 in
    ((omega (arith, s.0.0), omega (arith, s.0.1)), rows_some t rs a.1 s.1)

module _ (d : ℕ) (l : Lent) (z : Zone) where
  puttable_by : (k : Kind) → z.section ≡ id_of k → RowsAgain k d l (head_of k d z) → (room : Room) (before : List Item)
      → PartFits room before k (head_of k d z) (body_of k d l (head_of k d z)) → Writes (section_for k d l z) → Puttable (rows_only l) z
  puttable_by node s r room before f w =
      record { node_rows = λ e. ((f.low, f.order, r.0), (f.low, f.order, r.1)); cell_rows = λ e. absurd (omega arith); face_rows = λ n m. absurd (n s) }
  puttable_by cell s r room before f w =
      record { node_rows = λ e. absurd (omega arith); cell_rows = λ e. (f.low, f.order, r.0); face_rows = λ n m. absurd (m s) }
  puttable_by face s r room before f w =
      record {
        node_rows = λ e. absurd (omega arith);
        cell_rows = λ e. absurd (omega arith);
        face_rows = λ n m. ((f.low, f.order, r.0), rows_some z.ztype (part_rows 8 z l.faces) r.1 (faces_some w.2 f.fifth));
      }

  puttable : (a : ZoneAgain d l z) (room : Room) (before : List Item) → Fits room before (part_of d l z) → Writes (part_of d l z) → Puttable (rows_only l) z
  puttable a room before f w =
      let e = part_is a.kind d l z a.section in
      puttable_by a.kind a.section a.rows room before (subst (Fits room before) e f) (subst Writes e w)

all_puttable : (d : ℕ) (l : Lent) (room : Room) (zs : List Zone) (before : List Item) → Each (ZoneAgain d l) zs
    → EachFits room before (parts_of d l zs) → Each Writes (parts_of d l zs) → AllPuttable (rows_only l) zs
all_puttable d l room [] before a f w = tt
all_puttable d l room (z ∷ zs) before a f w = (puttable d l z a.0 room before f.0 w.0, all_puttable d l room zs _ a.1 f.1 w.1)

pub mesh_puttable : (m : Mesh) → Writable m → (m.dimension ≤ 3) × AllPuttable (rows_only m.held) m.held.zones
unfolding items_of
mesh_puttable m w =
    let d = m.dimension in
    let l = m.held in
    let room = room_of l in
    let before = dim d ∷ decl_of node m.nodes d ∷ decl_of cell m.cells 0 ∷ decl_of face m.faces 0 ∷ [] in
    let f : EachFits room [] (items_of m) = parted_each room [] (items_of m) w.fits in
    (either_of f.0.listed (λ q. omega arith) (λ q. omega arith), all_puttable d l room l.zones before w.again f.1.1.1.1 w.writes.1.1.1.1)
