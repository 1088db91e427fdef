-- [02:M-101], "18 Unwritable", computed: header by header as the reader tests them, then row by row. proofs/Written shows that it refuses exactly what no text gives. Assumes nothing.
use Rattle.std.specs.Prelude.{ℕ, zero, suc, ◌+◌, ◌-◌, ◌*◌, ◌%◌, ◌^◌, List, [], ◌∷◌, Bool, true, false, ◌&&◌, not, eqb, leb, ltb, ℤ, pos, negsuc, nat_abs, length, take, drop, get_or}
use Rattle.std.specs.Int.Signed.{le_z}
use Rattle.sizes.specs.Sizes.{rows, coordinate_digits}
use Rattle.mesh.specs.declared.Zone.{Zone}
use Rattle.mesh.specs.Rows.{places, face_words, cell_words, node_words}
use Rattle.layout.specs.Items.{Kind, node, cell, face, id_of, given}
use Rattle.layout.specs.Keeps.{most, Room, room_for}
use Rattle.layout.specs.Rows.{Lent, room_of}
use Rattle.layout.specs.Says.{Mesh}
use Rattle.layout.specs.State.{Span, every, clear, tiled, fits_in, part_range, dim_listed, type_listed, fifth_listed, zone_fits}
use Rattle.texts.specs.Tabled.{by_kind, section_rows, fifth_of, head_of}

abbrev pub total_of : Mesh → Kind → ℕ
total_of m node = m.nodes
total_of m cell = m.cells
total_of m face = m.faces

-- ---- the dimension and the totals
abbrev pub total_by : Room → Kind → ℕ → Bool
total_by room k total = leb total rows && fits_in (room_for room k) total

unfoldable pub front_by : Mesh → Bool
front_by m =
    dim_listed (given m.dimension)
    && (total_by (room_of m.held) node m.nodes && (total_by (room_of m.held) cell m.cells && total_by (room_of m.held) face m.faces))

-- ---- a record, against those before it
-- the ranges of the records of one section id
unfoldable pub spans_of : ℕ → List Zone → List Span
spans_of id [] = []
spans_of id (z ∷ zs) = elim (eqb z.section id) [ true ↦ record { first = z.first; last = z.last } ∷ spans_of id zs | false ↦ spans_of id zs ]

-- "for nodes 0"
abbrev pub element_by : Kind → ℕ → Bool
element_by node e = eqb e 0
element_by cell e = true
element_by face e = true

-- a record of this kind at place i of n, its kind's total and the ranges before it being given
unfoldable pub record_by : Kind → ℕ → ℕ → List Span → ℕ → ℕ → Zone → Bool
record_by k d total before n i z =
    leb 1 z.zone
    && (element_by k z.element
    && (part_range total z.zone z.first z.last
    && (every (clear z.first z.last) before
    && (type_listed k z.ztype && (fifth_listed k (given (fifth_of k d z.element)) && zone_fits (most n) i)))))

-- `before` are the records before it, the latest first
unfoldable pub record_fits : Mesh → List Zone → Zone → Bool
record_fits m before z =
    by_kind z.section (λ k. record_by k m.dimension (total_of m k) (spans_of (id_of k) before) (length m.held.zones) (length before) z) false

-- no declared index is in no record
unfoldable pub all_tiled : Mesh → List Zone → Bool
all_tiled m zs = tiled (spans_of 10 zs) m.nodes && (tiled (spans_of 12 zs) m.cells && tiled (spans_of 13 zs) m.faces)

unfoldable pub records_by : Mesh → List Zone → List Zone → Bool
records_by m before [] = all_tiled m before
records_by m before (z ∷ zs) = record_fits m before z && records_by m (z ∷ before) zs

-- ---- rows
unfoldable pub all_by : {A : Type 0} → (A → Bool) → List A → Bool
all_by f [] = true
all_by f (x ∷ xs) = f x && all_by f xs

-- a face row of a section of this element and type: at most eight hexadecimal digits a word, a count that the element allows, 0 in the places that it does not use
abbrev pub short_by : ℕ → Bool
short_by n = ltb n (16 ^ 8)

abbrev pub zero_by : ℕ → Bool
zero_by n = eqb n 0

abbrev pub count_by : ℕ → ℕ → Bool
count_by zero c = leb 2 c && leb c places
count_by (suc e) c = eqb c (suc e)

unfoldable pub face_by : ℕ → ℕ → List ℕ → Bool
face_by e t r =
    all_by short_by r
    && (count_by e (get_or r 0 0) && (all_by zero_by (drop (get_or r 0 0) (take places (drop 1 r))) && eqb (get_or r (places + 3) 0) t))

abbrev pub cell_element_by : ℕ → ℕ → Bool
cell_element_by zero c = leb 1 c && leb c 6
cell_element_by (suc e) c = eqb c (suc e)

unfoldable pub cell_by : ℕ → ℕ → List ℕ → Bool
cell_by e t r = cell_element_by e (get_or r 0 0) && eqb (get_or r 1 0) t

-- "The mantissa is not divisible by ten; any zero .. is mantissa 0, exponent 0", 18 digits, −400 to 400
unfoldable pub canonical_by : ℤ → ℤ → Bool
canonical_by m e =
    elim (eqb (nat_abs m) 0) [
      | true ↦ eqb (nat_abs e) 0
      | false ↦ not (eqb (nat_abs m % 10) 0) && (ltb (nat_abs m) (10 ^ coordinate_digits) && (le_z (negsuc 399) e && le_z e (pos 400)))
    ]

abbrev pub nought_by : ℤ → ℤ → Bool
nought_by m e = eqb (nat_abs m) 0 && eqb (nat_abs e) 0

-- d coordinates, and 0, 0 in the other pairs of w
unfoldable pub pairs_by : ℕ → ℕ → List ℤ → List ℤ → Bool
pairs_by zero d ms es = true
pairs_by (suc w) zero ms es = nought_by (get_or ms 0 (pos 0)) (get_or es 0 (pos 0)) && pairs_by w zero (drop 1 ms) (drop 1 es)
pairs_by (suc w) (suc d) ms es = canonical_by (get_or ms 0 (pos 0)) (get_or es 0 (pos 0)) && pairs_by w d (drop 1 ms) (drop 1 es)

-- n nodes
unfoldable pub nodes_by : ℕ → ℕ → List ℤ → List ℤ → Bool
nodes_by d zero ms es = true
nodes_by d (suc n) ms es = pairs_by node_words d ms es && nodes_by d n (drop node_words ms) (drop node_words es)

abbrev pub rows_by : Kind → ℕ → Lent → Zone → Bool
rows_by node d l z =
    nodes_by d (suc z.last - z.first) (drop (node_words * (z.first - 1)) l.mantissas) (drop (node_words * (z.first - 1)) l.exponents)
rows_by cell d l z = all_by (cell_by z.element z.ztype) (section_rows cell_words (head_of cell d z) l.cells)
rows_by face d l z = all_by (face_by z.element z.ztype) (section_rows (face_words places) (head_of face d z) l.faces)

unfoldable pub rows_fit : ℕ → Lent → Zone → Bool
rows_fit d l z = by_kind z.section (λ k. rows_by k d l z) false

-- ---- all of it
unfoldable pub writable_of : Mesh → Bool
writable_of m = front_by m && (records_by m [] m.held.zones && all_by (rows_fit m.dimension m.held) m.held.zones)
