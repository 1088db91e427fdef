-- [01:The audit], what a fault is: the table's sentences as statements about rows. To be believed: all of this file. Assumes nothing.
use Rattle.std.specs.Prelude.{ℕ, ◌≤◌, ◌<◌, ◌≡◌, ◌⊎◌}
use Rattle.mesh.specs.declared.Face.{Face}
use Rattle.records.specs.declared.Fault.{Fault}
use Rattle.records.specs.Record.{fault}
use Rattle.faults.specs.Faults.{node_at, side_of, sides_for}
use Rattle.faults.specs.Sides.{Tables, face_in, cell_in, count_of}

-- the faces are 1 to F, the cells 1 to C
abbrev pub Within : ℕ → ℕ → Type 0
Within i total = (1 ≤ i) × (i ≤ total)

abbrev pub Not : Type 0 → Type 0
Not P = P → ⊥

-- "Kinds 2 and 3 look at the first 2 to 4 positions by the node count"
pub record Looked (n : ℕ) (face : Face) (p : ℕ) : Type 0 where
  pub low : 2 ≤ face.count
  pub high : face.count ≤ n
  pub before : p < face.count

-- "node count is not 2 (flat) or not 3 or 4 (solid)": 3 to the number of places
abbrev pub WrongCount : ℕ → ℕ → ℕ → Type 0
WrongCount n dim count = ((dim ≡ 2) × Not (count ≡ 2)) ⊎ ((dim ≡ 3) × Not ((3 ≤ count) × (count ≤ n)))

-- "element not 1, 3 (flat) or 2, 4, 5, 6 (solid)"
abbrev pub WrongElement : ℕ → ℕ → Type 0
WrongElement dim e =
    ((dim ≡ 2) × (Not (e ≡ 1) × Not (e ≡ 3)))
    ⊎ ((dim ≡ 3) × (Not (e ≡ 2) × (Not (e ≡ 4) × (Not (e ≡ 5) × Not (e ≡ 6)))))

pub data Wrong (n : ℕ) (t : Tables) : Fault → Type 0 where
  -- "1 | face | node count is not 2 (flat) or not 3 or 4 (solid)"
  count : (f : ℕ) → Within f t.faces → WrongCount n t.dim (face_in n t f).count → Wrong n t (fault 1 f 0)
  -- "2 | face, position | node is 0 or above N"
  node : (f p : ℕ) → Within f t.faces → Looked n (face_in n t f) p
      → (node_at (face_in n t f) p ≡ 0) ⊎ (t.nodes < node_at (face_in n t f) p) → Wrong n t (fault 2 f p)
  -- "3 | face, position | node equals one at an earlier position of this face"
  again : (f p q : ℕ) → Within f t.faces → Looked n (face_in n t f) p
      → q < p → node_at (face_in n t f) q ≡ node_at (face_in n t f) p → Wrong n t (fault 3 f p)
  -- "4 | face, side | cell above C; side 0 right, 1 left"
  beyond : (f s : ℕ) → Within f t.faces → s < 2 → t.cells < side_of (face_in n t f) s → Wrong n t (fault 4 f s)
  -- "5 | face | both sides name the same cell, not 0"
  same : (f : ℕ) → Within f t.faces → (face_in n t f).right ≡ (face_in n t f).left → Not ((face_in n t f).right ≡ 0) → Wrong n t (fault 5 f 0)
  -- "6 | face | C above 0, type 2 or 1002, a side is 0"
  open_side : (f : ℕ) → Within f t.faces → 0 < t.cells → ((face_in n t f).ztype ≡ 2) ⊎ ((face_in n t f).ztype ≡ 1002)
      → ((face_in n t f).right ≡ 0) ⊎ ((face_in n t f).left ≡ 0) → Wrong n t (fault 6 f 0)
  -- "7 | face | C above 0, both sides 0"
  loose : (f : ℕ) → Within f t.faces → 0 < t.cells → (face_in n t f).right ≡ 0 → (face_in n t f).left ≡ 0 → Wrong n t (fault 7 f 0)
  -- "8 | cell | element not 1, 3 (flat) or 2, 4, 5, 6 (solid)"
  element : (c : ℕ) → Within c t.cells → WrongElement t.dim (cell_in t c).element → Wrong n t (fault 8 c 0)
  -- "9 | cell, count | type not 0, element 1 to 6, count not 3, 4, 4, 6, 5, 5 for elements 1 to 6"
  sides : (c : ℕ) → Within c t.cells → Not ((cell_in t c).ztype ≡ 0) → Within (cell_in t c).element 6
      → Not (count_of n t c ≡ sides_for (cell_in t c).element) → Wrong n t (fault 9 c (count_of n t c))
