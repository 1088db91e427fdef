-- [02:M-101]. The items that tables, totals, zone list and dimension are written as. To be believed: all of this file. Assumes nothing.
use Rattle.std.specs.Prelude.{ℕ, zero, suc, ◌+◌, ◌-◌, ◌*◌, List, [], ◌∷◌, map, true, false, eqb, ℤ, pos, take, drop, get_or}
use Rattle.mesh.specs.declared.Zone.{Zone}
use Rattle.mesh.specs.Rows.{places, face_words, cell_words, node_words}
use Rattle.layout.specs.Items.{Kind, node, cell, face, given, Header, count_of, Pair, Facet, Body, points, elements, facets, Item, dim, decl, part, other}
use Rattle.layout.specs.Rows.{Lent}
use Rattle.layout.specs.Says.{Mesh}

-- ---- rows of a table
unfoldable pub rows_of : {A : Type 0} → ℕ → ℕ → List A → List (List A)
rows_of w zero l = []
rows_of w (suc n) l = take w l ∷ rows_of w n (drop w l)

abbrev pub section_rows : {A : Type 0} → ℕ → Header → List A → List (List A)
section_rows w h l = rows_of w (count_of h) (drop (w * (h.first - 1)) l)

-- ---- what a row says
abbrev pub facet_of : List ℕ → Facet
facet_of r = record { corners = take (get_or r 0 0) (drop 1 r); right = get_or r (places + 1) 0; left = get_or r (places + 2) 0 }

abbrev pub element_of : List ℕ → ℕ
element_of r = get_or r 0 0

-- d pairs of mantissas and exponents
abbrev pub point_of : ℕ → List ℤ → List ℤ → List Pair
point_of zero ms es = []
point_of (suc d) ms es = record { mantissa = get_or ms 0 (pos 0); exponent = get_or es 0 (pos 0) } ∷ point_of d (drop 1 ms) (drop 1 es)

abbrev pub points_of : ℕ → List (List ℤ) → List (List ℤ) → List (List Pair)
points_of d [] es = []
points_of d (m ∷ ms) [] = []
points_of d (m ∷ ms) (e ∷ es) = point_of d m e ∷ points_of d ms es

abbrev pub body_of : Kind → ℕ → Lent → Header → Body
body_of node d l h = points d (points_of d (section_rows node_words h l.mantissas) (section_rows node_words h l.exponents))
body_of cell d l h = elements (map element_of (section_rows cell_words h l.cells))
body_of face d l h = facets (map facet_of (section_rows (face_words places) h l.faces))

-- ---- "the sections in zone-list order, nodes with ND"
abbrev pub fifth_of : Kind → ℕ → ℕ → ℕ
fifth_of node d e = d
fifth_of cell d e = e
fifth_of face d e = e

abbrev pub head_of : Kind → ℕ → Zone → Header
head_of k d z = record { zone = z.zone; first = z.first; last = z.last; type = z.ztype; fifth = given (fifth_of k d z.element) }

abbrev pub section_for : Kind → ℕ → Lent → Zone → Item
section_for k d l z = part k (head_of k d z) (body_of k d l (head_of k d z))

-- the kind of a record's section id, for those that there are
abbrev pub by_kind : {A : Type 0} → ℕ → (Kind → A) → A → A
by_kind id f none = elim (eqb id 10) [ true ↦ f node | false ↦ elim (eqb id 12) [ true ↦ f cell | false ↦ elim (eqb id 13) [ true ↦ f face | false ↦ none ] ] ]

unfoldable pub part_of : ℕ → Lent → Zone → Item
part_of d l z = by_kind z.section (λ k. section_for k d l z) other

abbrev pub parts_of : ℕ → Lent → List Zone → List Item
parts_of d l [] = []
parts_of d l (z ∷ zs) = part_of d l z ∷ parts_of d l zs

-- "each with type 0 and a fifth word, ND for nodes and else 0"
abbrev pub decl_of : Kind → ℕ → ℕ → Item
decl_of k total v = decl k (record { zone = 0; first = 1; last = total; type = 0; fifth = given v })

-- "section 2; the node, cell and face declarations in that order, .. then the sections"
unfoldable pub items_of : Mesh → List Item
items_of m =
    dim m.dimension ∷ decl_of node m.nodes m.dimension ∷ decl_of cell m.cells 0 ∷ decl_of face m.faces 0
    ∷ parts_of m.dimension m.held m.held.zones
