-- [02:M-101], "18 Unwritable": each clause of it on both sides, a word or two changed at a time. Assumes nothing.
use Prim.Native.Nat.{ℕ, ◌+◌, ◌-◌, ◌^◌}
use mathlib.Core.Path.{◌≡◌, refl}
use mathlib.Core.List.{List, [], ◌∷◌, ◌++◌, map}
use mathlib.Core.Bool.{Bool, true, false}
use lib.IntN.{ℤ, pos, negsuc}
use lib.ListN.{take, set, replicate}
use Rattle.mesh.specs.declared.Zone.{Zone}
use Rattle.layout.specs.Items.{node, face}
use Rattle.layout.specs.Rows.{Lent}
use Rattle.layout.specs.Says.{Mesh}
use Rattle.layout.specs.State.{every, some_of, among, tiled, part_range, zone_fits}
use Rattle.layout.proofs.Room.{free}
use Rattle.texts.specs.Tabled.{rows_of}
use Rattle.texts.specs.Judged.{total_by, front_by, spans_of, record_by, record_fits, all_tiled, records_by, all_by, face_by, cell_by, canonical_by, pairs_by, nodes_by, rows_fit, writable_of}
use Rattle.texts.specs.Write.{mesh_of}

-- ---- two nodes; a face of two nodes, and one of three in a mixed section; a cell of element 1, and one of 4 in a mixed section
abbrev zone : ℕ → ℕ → ℕ → ℕ → ℕ → ℕ → Zone
zone s z f l t e = record { section = s; zone = z; first = f; last = l; ztype = t; element = e }

abbrev lent : List ℤ → List ℤ → List ℕ → List ℕ → List Zone → Lent
lent ms es fs cs zs = record { mantissas = ms; exponents = es; faces = fs; cells = cs; zones = zs }

abbrev mantissas : List ℤ
mantissas = pos 0 ∷ pos 0 ∷ pos 0 ∷ pos 1 ∷ negsuc 4 ∷ pos 0 ∷ []

abbrev exponents : List ℤ
exponents = pos 0 ∷ pos 0 ∷ pos 0 ∷ pos 0 ∷ negsuc 0 ∷ pos 0 ∷ []

abbrev faces : List ℕ
faces = 2 ∷ 1 ∷ 2 ∷ 0 ∷ 0 ∷ 1 ∷ 2 ∷ 3 ∷ (3 ∷ 2 ∷ 1 ∷ 2 ∷ 0 ∷ 1 ∷ 0 ∷ 5 ∷ [])

abbrev cells : List ℕ
cells = 1 ∷ 1 ∷ (4 ∷ 32 ∷ [])

abbrev zones : List Zone
zones = zone 10 1 1 2 1 0 ∷ zone 12 2 1 1 1 1 ∷ zone 12 3 2 2 32 0 ∷ zone 13 4 1 1 3 2 ∷ zone 13 5 2 2 5 0 ∷ []

-- ---- and it with something changed
abbrev sized : ℕ → ℕ → ℕ → ℕ → Mesh
sized d n f c = mesh_of d n f c (lent mantissas exponents faces cells zones)

abbrev noded : ℕ → List ℤ → List ℤ → Mesh
noded d ms es = mesh_of d 2 2 2 (lent ms es faces cells zones)

abbrev tabled : List ℕ → List ℕ → List Zone → Mesh
tabled fs cs zs = mesh_of 2 2 2 2 (lent mantissas exponents fs cs zs)

-- the third pair, and the second node's first
abbrev third : ℕ → ℤ → ℤ → Mesh
third d m e = noded d (set mantissas 2 m) (set exponents 2 e)

abbrev paired : ℤ → ℤ → Mesh
paired m e = noded 2 (set mantissas 3 m) (set exponents 3 e)

-- a word of the face rows, of the cell rows; a record
abbrev faced : ℕ → ℕ → Mesh
faced i w = tabled (set faces i w) cells zones

abbrev celled : ℕ → ℕ → Mesh
celled i w = tabled faces (set cells i w) zones

abbrev zoned : ℕ → Zone → Mesh
zoned i z = tabled faces cells (set zones i z)

record Case : Type 0 where
  mesh : Mesh
  writable : Bool

abbrev yes : Mesh → Case
yes m = record { mesh = m; writable = true }

abbrev no : Mesh → Case
no m = record { mesh = m; writable = false }

abbrev headers : List Case
headers =
    -- "wrong dimension"
    yes (sized 2 2 2 2)
    ∷ yes (sized 3 2 2 2)
    ∷ no (sized 1 2 2 2)
    ∷ no (sized 4 2 2 2)
    -- "totals over .. the rows lent": a word too few; rows behind the totals are not looked at
    ∷ no (noded 2 (take 5 mantissas) exponents)
    ∷ no (noded 2 mantissas (take 5 exponents))
    ∷ no (tabled (take 15 faces) cells zones)
    ∷ no (tabled faces (take 3 cells) zones)
    ∷ yes (noded 2 (mantissas ++ replicate 3 (pos 10)) (exponents ++ replicate 3 (pos 999)))
    ∷ yes (tabled (faces ++ replicate 8 9) (cells ++ replicate 2 9) zones)
    -- "indices .. missing": face 2
    ∷ no (tabled faces cells (take 4 zones))
    ∷ yes (mesh_of 2 2 1 2 (lent mantissas exponents faces cells (take 4 zones)))
    -- no cells, no nodes, nothing
    ∷ yes (mesh_of 2 0 0 0 (lent [] [] [] [] []))
    ∷ yes (mesh_of 3 2 0 0 (lent mantissas exponents [] [] (zone 10 1 1 2 0 0 ∷ [])))
    -- "indices shared": cell 2 in two sections
    ∷ no (tabled faces (1 ∷ 1 ∷ 1 ∷ 1 ∷ []) (set (set zones 1 (zone 12 2 1 2 1 1)) 2 (zone 12 3 2 2 1 1)))
    ∷ yes (tabled faces (1 ∷ 1 ∷ 1 ∷ 1 ∷ []) (set (set zones 1 (zone 12 2 1 1 1 1)) 2 (zone 12 3 2 2 1 1)))
    -- sections out of order
    ∷ yes (tabled faces cells (zone 13 5 2 2 5 0 ∷ zone 12 3 2 2 32 0 ∷ zone 13 4 1 1 3 2 ∷ zone 10 1 1 2 1 0 ∷ zone 12 2 1 1 1 1 ∷ []))
    -- "an id, .. that is not listed"
    ∷ no (zoned 0 (zone 11 1 1 2 1 0))
    -- zone: 1 to 65535
    ∷ no (zoned 0 (zone 10 0 1 2 1 0))
    ∷ yes (zoned 0 (zone 10 65535 1 2 1 0))
    ∷ no (zoned 0 (zone 10 65536 1 2 1 0))
    -- range: first 0, last below first, last above the total
    ∷ no (zoned 0 (zone 10 1 0 2 1 0))
    ∷ no (zoned 0 (zone 10 1 2 1 1 0))
    ∷ no (zoned 0 (zone 10 1 1 3 1 0))
    -- type
    ∷ yes (zoned 0 (zone 10 1 1 2 2 0))
    ∷ no (zoned 0 (zone 10 1 1 2 3 0))
    ∷ yes (tabled faces (set cells 1 0) (set zones 1 (zone 12 2 1 1 0 1)))
    ∷ no (tabled faces (set cells 1 2) (set zones 1 (zone 12 2 1 1 2 1)))
    ∷ yes (tabled (set faces 7 1037) cells (set zones 3 (zone 13 4 1 1 1037 2)))
    ∷ no (tabled (set faces 7 6) cells (set zones 3 (zone 13 4 1 1 6 2)))
    -- element; "for nodes the element is 0"
    ∷ no (zoned 0 (zone 10 1 1 2 1 1))
    ∷ yes (tabled faces (set cells 0 6) (set zones 1 (zone 12 2 1 1 1 6)))
    ∷ no (tabled faces (set cells 0 7) (set zones 1 (zone 12 2 1 1 1 7)))
    ∷ yes (tabled (set (set faces 0 4) 4 9) cells (set zones 3 (zone 13 4 1 1 3 4)))
    ∷ no (tabled (set (set faces 0 1) 2 0) cells (set zones 3 (zone 13 4 1 1 3 1)))
    ∷ []

abbrev rows : List Case
rows =
    -- "a row whose type .. is not its record's"
    no (faced 7 4)
    ∷ no (faced 15 3)
    ∷ no (celled 1 0)
    ∷ no (celled 3 1)
    -- node count: the plain section's is 2, the mixed one's 2 to 4
    ∷ no (faced 0 3)
    ∷ no (tabled (set (set (set faces 8 1) 10 0) 11 0) cells zones)
    ∷ yes (tabled (set (set faces 8 2) 11 0) cells zones)
    ∷ yes (faced 8 4)
    ∷ no (faced 8 5)
    -- cell elements
    ∷ no (celled 0 2)
    ∷ no (celled 2 0)
    ∷ yes (celled 2 6)
    ∷ no (celled 2 7)
    -- "an unused node place .. that is not 0"
    ∷ no (faced 3 1)
    ∷ no (faced 4 1)
    ∷ no (faced 12 1)
    -- nodes above N and cells above C, up to 32 bits
    ∷ yes (faced 1 4294967295)
    ∷ no (faced 1 4294967296)
    ∷ yes (faced 5 4294967295)
    ∷ no (faced 6 4294967296)
    -- "third pair that is not 0"; in three dimensions it may be
    ∷ no (third 2 (pos 1) (pos 0))
    ∷ no (third 2 (pos 0) (pos 1))
    ∷ yes (third 3 (pos 1) (pos 1))
    -- "a pair that is not canonical": zeros, divisible by ten, exponents, 18 digits, the lowest i64
    ∷ yes (paired (pos 0) (pos 0))
    ∷ no (paired (pos 0) (pos 1))
    ∷ no (paired (pos 10) (pos 0))
    ∷ no (paired (negsuc 9) (pos 0))
    ∷ yes (paired (pos 1) (pos 400))
    ∷ no (paired (pos 1) (pos 401))
    ∷ yes (paired (pos 1) (negsuc 399))
    ∷ no (paired (pos 1) (negsuc 400))
    ∷ yes (paired (negsuc (10 ^ 18 - 2)) (pos 0))
    ∷ no (paired (pos (10 ^ 18 + 1)) (pos 0))
    ∷ no (paired (negsuc (2 ^ 63 - 1)) (pos 0))
    ∷ []

pub header_cases : map (λ c. writable_of c.mesh) headers ≡ map (λ c. c.writable) headers
unfolding every some_of among tiled part_range zone_fits rows_of front_by spans_of record_by record_fits all_tiled records_by all_by face_by cell_by canonical_by pairs_by nodes_by rows_fit writable_of
header_cases = refl

pub row_cases : map (λ c. writable_of c.mesh) rows ≡ map (λ c. c.writable) rows
unfolding every some_of among tiled part_range zone_fits rows_of front_by spans_of record_by record_fits all_tiled records_by all_by face_by cell_by canonical_by pairs_by nodes_by rows_fit writable_of
row_cases = refl

-- "totals over the limits": 65535 rows of a kind
pub total_cases : (total_by free node 65535 ≡ true) × (total_by free node 65536 ≡ false)
total_cases = (refl, refl)

-- "over 64 records": the 64th of 65, and the 65th
pub many_cases : (record_by face 2 1 [] 65 63 (zone 13 4 1 1 3 2) ≡ true) × (record_by face 2 1 [] 65 64 (zone 13 4 1 1 3 2) ≡ false)
unfolding among every part_range zone_fits record_by
many_cases = (refl, refl)
