-- A section's bytes, from its record and the tables, as the code puts them; proofs/MeshText ties them to the mesh's text. Assumes nothing.
use Rattle.std.specs.Prelude.{ℕ, suc, ◌+◌, ◌-◌, ◌*◌, ◌≤◌, ◌≡◌, List, [], ◌∷◌, ◌++◌, true, false, eqb, ℤ, length, drop}
use Rattle.figures.specs.Figures.{figures}
use Rattle.texts.specs.Writes.{Each}
use Rattle.layout.specs.Rows.{Lent}
use Rattle.layout.specs.Items.{Kind, node, cell, face}
use Rattle.texts.specs.Tabled.{rows_of, by_kind}
use Rattle.texts.specs.Write.{records_in}
use Rattle.mesh.specs.declared.Zone.{Zone}
use Rattle.writer.specs.declared.tables.Totals.{Totals}
use Rattle.writer.specs.inner.Rows.{head_bytes, table_bytes, cell_words_of, face_words_of, SomeCorners, nodes_bytes}

-- "Indices run first to last, both included."
abbrev pub rows_in : ℕ → ℕ → ℕ
rows_in first last = suc last - first

-- the rows of a record, of w numbers each
abbrev pub part_rows : {A : Type 0} → ℕ → Zone → List A → List (List A)
part_rows w z l = rows_of w (rows_in z.first z.last) (drop (w * (z.first - 1)) l)

-- a table of so many numbers has them
abbrev pub PartIn : ℕ → Zone → ℕ → Type 0
PartIn w z size = (1 ≤ z.first) × (z.first ≤ z.last) × (w * (z.first - 1) + rows_in z.first z.last * w ≤ size)

abbrev pub head_for : ℕ → Zone → ℕ → List ℕ
head_for id z fifth = head_bytes id z.zone z.first z.last z.ztype fifth

-- `(`, the rows, `))` and the line feed
abbrev pub bodied : List ℕ → List ℕ
bodied rows = 40 ∷ (rows ++ (41 ∷ 41 ∷ 10 ∷ []))

unfoldable pub node_section : ℕ → Zone → List ℤ → List ℤ → List ℕ
node_section d z ms es = head_for 10 z d ++ bodied (nodes_bytes d (part_rows 3 z ms) (part_rows 3 z es))

unfoldable pub cell_section : Zone → List ℕ → List ℕ
cell_section z cells =
    head_for 12 z z.element
    ++ elim (eqb z.element 0) [ true ↦ bodied (table_bytes cell_words_of (part_rows 2 z cells)) | false ↦ 41 ∷ 10 ∷ [] ]

unfoldable pub face_section : Zone → List ℕ → List ℕ
face_section z faces =
    head_for 13 z z.element ++ bodied (table_bytes (face_words_of (eqb z.element 0)) (part_rows 8 z faces))

-- ---- a section of any kind, and all of them; a table of records is six words each
abbrev pub kind_bytes : ℕ → Lent → Zone → Kind → List ℕ
kind_bytes d l z node = node_section d z l.mantissas l.exponents
kind_bytes d l z cell = cell_section z l.cells
kind_bytes d l z face = face_section z l.faces

unfoldable pub section_bytes : ℕ → Lent → Zone → List ℕ
section_bytes d l z = by_kind z.section (kind_bytes d l z) (face_section z l.faces)

unfoldable pub parts_bytes : ℕ → Lent → List Zone → List ℕ
parts_bytes d l [] = []
parts_bytes d l (z ∷ zs) = section_bytes d l z ++ parts_bytes d l zs

-- the rows of a record are there; a face has 1 to 4 corners
pub record Puttable (l : Lent) (z : Zone) : Type 0 where
  pub node_rows : z.section ≡ 10 → PartIn 3 z (length l.mantissas) × PartIn 3 z (length l.exponents)
  pub cell_rows : z.section ≡ 12 → PartIn 2 z (length l.cells)
  pub face_rows : (z.section ≡ 10 → ⊥) → (z.section ≡ 12 → ⊥) → PartIn 8 z (length l.faces) × Each SomeCorners (part_rows 8 z l.faces)

-- of each record
abbrev pub AllPuttable : Lent → List Zone → Type 0
AllPuttable l zs = Each (Puttable l) zs

-- ---- the whole text
abbrev pub decl_bytes : ℕ → ℕ → ℕ → List ℕ
decl_bytes id total fifth = head_bytes id 0 1 total 0 fifth ++ (41 ∷ 10 ∷ [])

unfoldable pub mesh_bytes : Totals → Lent → List ℕ → List ℕ
mesh_bytes t l zones =
    (40 ∷ 50 ∷ 32 ∷ []) ++ (figures 16 t.dimension ++ ((41 ∷ 10 ∷ []) ++ (decl_bytes 10 t.nodes t.dimension ++ (decl_bytes 12 t.cells 0 ++ (decl_bytes 13 t.faces 0
    ++ parts_bytes t.dimension l (records_in zones))))))

-- ---- the rows of a record are there
pub record Ranged (l : Lent) (z : Zone) : Type 0 where
  pub node_rows : z.section ≡ 10 → PartIn 3 z (length l.mantissas) × PartIn 3 z (length l.exponents)
  pub cell_rows : z.section ≡ 12 → PartIn 2 z (length l.cells)
  pub face_rows : z.section ≡ 13 → PartIn 8 z (length l.faces)

-- of each record
abbrev pub AllRanged : Lent → List Zone → Type 0
AllRanged l zs = Each (Ranged l) zs
