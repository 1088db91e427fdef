-- [02:M-101], "input that no text of the layout could give": what its items must keep, and that its rows and records are those that the items say. Assumes nothing.
use Rattle.std.specs.Prelude.{ℕ, ◌+◌, ◌*◌, ◌-◌, ◌≤◌, ◌≡◌, List, [], ◌∷◌, ◌++◌, map, ℤ, pos, length}
use Rattle.mesh.specs.declared.Zone.{Zone}
use Rattle.mesh.specs.Rows.{places, face_words, cell_words, node_words}
use Rattle.layout.specs.Items.{Kind, node, cell, face, id_of, Header, count_of, Pair, Item}
use Rattle.tokens.specs.Listed.{Tok}
use Rattle.tokens.specs.Text.{Text}
use Rattle.layout.specs.Keeps.{Fits, Whole, Laid, Some, SaysDim, Declares, parts_in}
use Rattle.layout.specs.Rows.{Lent, room_of, pad, face_row, Holds}
use Rattle.layout.specs.Says.{Mesh, CellsAre}
use Rattle.texts.specs.Writes.{Each, Writes}
use Rattle.texts.specs.Tabled.{section_rows, facet_of, element_of, point_of, head_of, items_of}

-- the row is the one that its own item says
abbrev pub FaceAgain : ℕ → List ℕ → Type 0
FaceAgain t r = face_row places t (facet_of r) ≡ r

abbrev pub CellAgain : ℕ → List ℕ → Type 0
CellAgain t r = element_of r ∷ t ∷ [] ≡ r

abbrev pub NodeAgain : ℕ → List (List ℤ) → List (List ℤ) → Type 0
NodeAgain d [] [] = Unit
NodeAgain d [] (e ∷ es) = ⊥
NodeAgain d (m ∷ ms) [] = ⊥
NodeAgain d (m ∷ ms) (e ∷ es) =
    (pad node_words (pos 0) (map (λ (p : Pair). p.mantissa) (point_of d m e)) ≡ m)
    × (pad node_words (pos 0) (map (λ (p : Pair). p.exponent) (point_of d m e)) ≡ e) × NodeAgain d ms es

abbrev pub Inside : {A : Type 0} → ℕ → Header → List A → Type 0
Inside w h l = w * (h.first - 1) + count_of h * w ≤ length l

abbrev pub RowsAgain : Kind → ℕ → Lent → Header → Type 0
RowsAgain node d l h =
    Inside node_words h l.mantissas × Inside node_words h l.exponents
    × NodeAgain d (section_rows node_words h l.mantissas) (section_rows node_words h l.exponents)
RowsAgain cell d l h = Inside cell_words h l.cells × Each (CellAgain h.type) (section_rows cell_words h l.cells)
RowsAgain face d l h = Inside (face_words places) h l.faces × Each (FaceAgain h.type) (section_rows (face_words places) h l.faces)

abbrev pub ElementAgain : Kind → Zone → Type 0
ElementAgain node z = z.element ≡ 0
ElementAgain cell z = Unit
ElementAgain face z = Unit

pub record ZoneAgain (d : ℕ) (l : Lent) (z : Zone) : Type 0 where
  pub kind : Kind
  pub section : z.section ≡ id_of kind
  pub element : ElementAgain kind z
  pub rows : RowsAgain kind d l (head_of kind d z)

pub record Writable (m : Mesh) : Type 0 where
  pub counted : m.zones ≡ length m.held.zones
  pub again : Each (ZoneAgain m.dimension m.held) m.held.zones
  pub writes : Each Writes (items_of m)
  pub fits : (before : List Item) (i : Item) (after : List Item) → items_of m ≡ before ++ (i ∷ after) → Fits (room_of m.held) before i
  pub whole : Whole (items_of m)

-- "input that no text of the layout could give, its length apart": some text, whatever its length, says these tables to who reads it into tables of this room
pub record Given (m : Mesh) : Type 0 where
  pub bytes : List ℕ
  pub tokens : List Tok
  pub text : Text 0 bytes tokens
  pub items : List Item
  pub old : Lent
  pub laid : Laid (room_of old) tokens items
  pub dimension : Some (SaysDim m.dimension) items
  pub nodes : Some (Declares node m.nodes) items
  pub faces : Some (Declares face m.faces) items
  pub cells : CellsAre items m.cells
  pub zones : m.zones ≡ parts_in items
  pub held : Holds items old m.held
  -- "zone list (every record lent)"
  pub all : m.zones ≡ length m.held.zones
