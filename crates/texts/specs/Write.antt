-- [02:M-101]. What the writer answers and what it leaves in the lent text. To be believed: all of this file. Assumes nothing.
use Rattle.std.specs.Prelude.{ℕ, zero, suc, ◌/◌, ◌≡◌, List, [], ◌∷◌, ◌++◌, Bool, true, false, ◌&&◌, leb, length, take, drop, get_or}
use Rattle.sizes.specs.Sizes.{file_bytes}
use Rattle.mesh.specs.declared.Zone.{Zone}
use Rattle.layout.specs.Rows.{Lent}
use Rattle.layout.specs.Says.{Mesh}
use Rattle.texts.specs.Texts.{text_of}
use Rattle.texts.specs.Tabled.{items_of}
use Rattle.texts.specs.Judged.{writable_of}

-- "from tables, totals, zone list (every record lent) and dimension"
abbrev pub mesh_of : ℕ → ℕ → ℕ → ℕ → Lent → Mesh
mesh_of dimension nodes faces cells l = record { dimension = dimension; nodes = nodes; faces = faces; cells = cells; zones = length l.zones; held = l }

-- every record lent is one of the mesh
abbrev pub Counted : Mesh → Type 0
Counted m = m.zones ≡ length m.held.zones

-- "Exactly one text belongs to given tables."
abbrev pub mesh_text : Mesh → List ℕ
mesh_text m = text_of (items_of m)

-- "the number", and the length of the text, 0 in a refusal
pub record Values : Type 0 where
  pub number : ℕ
  pub bytes : ℕ

abbrev pub values : ℕ → ℕ → Values
values number bytes = record { number = number; bytes = bytes }

-- the answer, and the lent text as the call leaves it
pub record Out : Type 0 where
  pub answer : Values
  pub text : List ℕ

abbrev pub out : Values → List ℕ → Out
out answer text = record { answer = answer; text = text }

-- "19 TextRoom exactly when the text is longer than the room or the reader's file size": not so
abbrev pub has_room : List ℕ → List ℕ → Bool
has_room t old = leb (length t) file_bytes && leb (length t) (length old)

-- "18 Unwritable ..; then 19 TextRoom"; "A refusal leaves the lent text untouched." Bytes behind the text stay
unfoldable pub write_of : Mesh → List ℕ → Out
write_of m old =
    elim (writable_of m) [
      | true ↦ elim (has_room (mesh_text m) old) [
        | true ↦ out (values 0 (length (mesh_text m))) (mesh_text m ++ drop (length (mesh_text m)) old)
        | false ↦ out (values 19 0) old
      ]
      | false ↦ out (values 18 0) old
    ]

-- ---- zone records as words, six each: section id, zone, first, last, type, element
abbrev pub zone_in : List ℕ → Zone
zone_in r = record { section = get_or r 0 0; zone = get_or r 1 0; first = get_or r 2 0; last = get_or r 3 0; ztype = get_or r 4 0; element = get_or r 5 0 }

-- n records
abbrev pub zones_in : ℕ → List ℕ → List Zone
zones_in zero l = []
zones_in (suc n) l = zone_in (take 6 l) ∷ zones_in n (drop 6 l)

-- the whole records of a slice
abbrev pub records_in : List ℕ → List Zone
records_in words = zones_in (length words / 6) words
