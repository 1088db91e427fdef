-- [01:Sections that are read], "Tables". What the tables and the zone list hold once the items of a file are laid into them. To be believed: all of this file. Assumes nothing.
use Rattle.std.specs.Prelude.{ℕ, ◌+◌, ◌-◌, ◌*◌, ◌/◌, ◌<◌, ◌≤◌, min, ◌≡◌, ◌⊎◌, Bool, true, false, ℤ, pos, length, get_or, take, replicate}
use mathlib.Core.List.{List, [], ◌∷◌, ◌++◌, map, Memᴰ}
use Rattle.mesh.specs.declared.Zone.{Zone}
use Rattle.mesh.specs.Rows.{places, face_words, cell_words, node_words}
use Rattle.layout.specs.Items.{Kind, node, cell, face, id_of, Perhaps, absent, given, Header, Pair, Facet, Body, points, elements, facets, Item, dim, decl, part, other}
use Rattle.layout.specs.Keeps.{most, Room}

-- ---- any table
-- a run of words, and where it begins
pub record Piece (A : Type 0) : Type 0 where
  pub at : ℕ
  pub words : List A

abbrev pub Away : {A : Type 0} → ℕ → Piece A → Type 0
Away k p = (k < p.at) ⊎ (p.at + length p.words ≤ k)

-- the table holds each run, and is elsewhere as it was: "Rows and records beyond the totals stay as they were."
pub record Holding {A : Type 0} (d : A) (ps : List (Piece A)) (old new : List A) : Type 0 where
  pub size : length new ≡ length old
  pub there : (p : Piece A) → Memᴰ p ps → (j : ℕ) → j < length p.words → get_or new (p.at + j) d ≡ get_or p.words j d
  pub stays : (k : ℕ) → ((p : Piece A) → Memᴰ p ps → Away k p) → get_or new k d ≡ get_or old k d

-- rows of one kind: so many words a row, and the rows that a section's body says
pub record Table (A : Type 0) : Type 0 where
  pub kind : Kind
  pub width : ℕ
  pub rows : Header → Body → List (List A)

abbrev pub joined : {A : Type 0} → List (List A) → List A
joined [] = []
joined (r ∷ rs) = r ++ joined rs

abbrev pub same_kind : Kind → Kind → Bool
same_kind node node = true
same_kind node cell = false
same_kind node face = false
same_kind cell node = false
same_kind cell cell = true
same_kind cell face = false
same_kind face node = false
same_kind face cell = false
same_kind face face = true

-- the rows of a section begin at its first index; indices begin at 1
abbrev pub piece_of : {A : Type 0} → Table A → Header → Body → Piece A
piece_of t h b = record { at = t.width * (h.first - 1); words = joined (t.rows h b) }

abbrev pub pieces_of : {A : Type 0} → Table A → List Item → List (Piece A)
pieces_of t [] = []
pieces_of t (dim n ∷ is) = pieces_of t is
pieces_of t (decl k h ∷ is) = pieces_of t is
pieces_of t (part k h b ∷ is) = elim (same_kind k t.kind) [ true ↦ piece_of t h b ∷ pieces_of t is | false ↦ pieces_of t is ]
pieces_of t (other ∷ is) = pieces_of t is

-- n words, the last ones d where there are fewer
abbrev pub pad : {A : Type 0} → ℕ → A → List A → List A
pad n d l = take n (l ++ replicate n d)

-- ---- "node row, three mantissas .. and three exponents (the third pair is 0, 0 in two dimensions)"
abbrev pub node_rows : (Pair → ℤ) → Header → Body → List (List ℤ)
node_rows f h (points d ps) = map (λ p. pad node_words (pos 0) (map f p)) ps
node_rows f h (elements es) = []
node_rows f h (facets fs) = []

abbrev pub node_table : (Pair → ℤ) → Table ℤ
node_table f = record { kind = node; width = node_words; rows = node_rows f }

abbrev pub mantissa_table : Table ℤ
mantissa_table = node_table (λ p. p.mantissa)

abbrev pub exponent_table : Table ℤ
exponent_table = node_table (λ p. p.exponent)

-- ---- "Face row, eight 32-bit words: node count, four nodes (unused ones 0), right cell, left cell, zone type."
abbrev pub face_row : ℕ → ℕ → Facet → List ℕ
face_row n t f = length f.corners ∷ (pad n 0 f.corners ++ (f.right ∷ f.left ∷ t ∷ []))

abbrev pub face_rows : Header → Body → List (List ℕ)
face_rows h (points d ps) = []
face_rows h (elements es) = []
face_rows h (facets fs) = map (face_row places h.type) fs

abbrev pub face_table : Table ℕ
face_table = record { kind = face; width = face_words places; rows = face_rows }

-- ---- "Cell row, two 32-bit words: element, zone type."
abbrev pub cell_rows : Header → Body → List (List ℕ)
cell_rows h (points d ps) = []
cell_rows h (elements es) = map (λ e. e ∷ h.type ∷ []) es
cell_rows h (facets fs) = []

abbrev pub cell_table : Table ℕ
cell_table = record { kind = cell; width = cell_words; rows = cell_rows }

-- ---- "zone records, one for each regular section in file order: section id, zone, first, last, type, element (for nodes 0)"
abbrev pub element_in : Kind → Perhaps → ℕ
element_in node v = 0
element_in cell absent = 0
element_in cell (given e) = e
element_in face absent = 0
element_in face (given e) = e

abbrev pub zone_of : Kind → Header → Zone
zone_of k h = record { section = id_of k; zone = h.zone; first = h.first; last = h.last; ztype = h.type; element = element_in k h.fifth }

abbrev pub zones_of : List Item → List Zone
zones_of [] = []
zones_of (dim n ∷ is) = zones_of is
zones_of (decl k h ∷ is) = zones_of is
zones_of (part k h b ∷ is) = zone_of k h ∷ zones_of is
zones_of (other ∷ is) = zones_of is

abbrev pub zone_pieces : List Item → List (Piece Zone)
zone_pieces is = record { at = 0; words = zones_of is } ∷ []

abbrev pub no_zone : Zone
no_zone = record { section = 0; zone = 0; first = 0; last = 0; ztype = 0; element = 0 }

-- ---- what is lent, and the room that it has: "more whole rows than a slice of its kind has"
pub record Lent : Type 0 where
  pub mantissas : List ℤ
  pub exponents : List ℤ
  pub faces : List ℕ
  pub cells : List ℕ
  pub zones : List Zone

abbrev pub room_of : Lent → Room
room_of l =
    record {
      nodes = most (min (length l.mantissas / node_words) (length l.exponents / node_words));
      cells = most (length l.cells / cell_words);
      faces = most (length l.faces / face_words places);
      zones = most (length l.zones);
    }

-- the lent tables and list `new` hold what the items say, over what they held before
pub record Holds (is : List Item) (old new : Lent) : Type 0 where
  pub mantissas : Holding (pos 0) (pieces_of mantissa_table is) old.mantissas new.mantissas
  pub exponents : Holding (pos 0) (pieces_of exponent_table is) old.exponents new.exponents
  pub faces : Holding 0 (pieces_of face_table is) old.faces new.faces
  pub cells : Holding 0 (pieces_of cell_table is) old.cells new.cells
  pub zones : Holding no_zone (zone_pieces is) old.zones new.zones
