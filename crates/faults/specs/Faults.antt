-- [01:The audit], the table as tests, and the faults of one face and of one cell in their order. Over the number n of node places.
-- To be believed together with `Wrong`, which these tests are proved to agree with. Assumes nothing.
use Rattle.std.specs.Prelude.{ℕ, ◌-◌, List, [], ◌∷◌, Bool, true, false, not, ◌&&◌, ◌||◌, eqb, ltb, leb, take, get_or}
use Rattle.mesh.specs.declared.Face.{Face}
use Rattle.mesh.specs.declared.Cell.{Cell}
use Rattle.records.specs.declared.Fault.{Fault}
use Rattle.records.specs.Record.{fault}
use Rattle.faults.specs.declared.Frame.{Frame}
use Rattle.faults.specs.Over.{each, any_of}

-- "Kinds 2 and 3 look at the first 2 to 4 positions by the node count, and at none where that count is outside 2 to 4."
unfoldable pub looked_at : ℕ → ℕ → ℕ
looked_at n count = elim (leb 2 count && leb count n) [ true ↦ count | false ↦ 0 ]

-- how many positions or sides a kind of face fault is looked for at; "Positions start at 0."
unfoldable pub positions_of : ℕ → Face → ℕ → ℕ
positions_of n face kind =
    elim (leb 2 kind && leb kind 3) [ true ↦ looked_at n face.count | false ↦ elim (eqb kind 4) [ true ↦ 2 | false ↦ 1 ] ]

-- "node count is not 2 (flat) or not 3 or 4 (solid)"
unfoldable pub wrong_count : ℕ → ℕ → ℕ → Bool
wrong_count n dim count = elim (eqb dim 2) [ true ↦ not (eqb count 2) | false ↦ not (leb 3 count && leb count n) ]

abbrev pub node_at : Face → ℕ → ℕ
node_at face p = get_or face.nodes p 0

-- "node is 0 or above N"
abbrev pub wrong_node : ℕ → ℕ → Bool
wrong_node nodes x = eqb x 0 || ltb nodes x

-- x is one of a list
unfoldable pub is_in : ℕ → List ℕ → Bool
is_in x [] = false
is_in x (y ∷ l) = eqb y x || is_in x l

-- "node equals one at an earlier position of this face"
abbrev pub is_earlier : Face → ℕ → Bool
is_earlier face p = is_in (node_at face p) (take p face.nodes)

-- "side 0 right, 1 left"
unfoldable pub side_of : Face → ℕ → ℕ
side_of face s = elim (eqb s 0) [ true ↦ face.right | false ↦ face.left ]

-- "both sides name the same cell, not 0"
abbrev pub is_same : Face → Bool
is_same face = eqb face.right face.left && not (eqb face.right 0)

-- "type 2 or 1002"
abbrev pub interior : List ℕ
interior = 2 ∷ 1002 ∷ []

-- "C above 0, type 2 or 1002, a side is 0"
abbrev pub is_open : ℕ → Face → Bool
is_open cells face = ltb 0 cells && (is_in face.ztype interior && (eqb face.right 0 || eqb face.left 0))

-- "C above 0, both sides 0"
abbrev pub is_loose : ℕ → Face → Bool
is_loose cells face = ltb 0 cells && (eqb face.right 0 && eqb face.left 0)

-- the table's lines 1 to 7
unfoldable pub has_fault : ℕ → Frame → Face → ℕ → ℕ → Bool
has_fault n frame face kind p =
    elim (eqb kind 1) [
      | true ↦ wrong_count n frame.dim face.count
      | false ↦ elim (eqb kind 2) [
        | true ↦ wrong_node frame.nodes (node_at face p)
        | false ↦ elim (eqb kind 3) [
          | true ↦ is_earlier face p
          | false ↦ elim (eqb kind 4) [
            -- "cell above C"
            | true ↦ ltb frame.cells (side_of face p)
            | false ↦ elim (eqb kind 5) [
              | true ↦ is_same face
              | false ↦ elim (eqb kind 6) [
                | true ↦ is_open frame.cells face
                | false ↦ elim (eqb kind 7) [ true ↦ is_loose frame.cells face | false ↦ false ]
              ]
            ]
          ]
        ]
      ]
    ]

abbrev pub fault_if : Bool → Fault → List Fault
fault_if b f = elim b [ true ↦ f ∷ [] | false ↦ [] ]

-- the faults of the face of number i: "in a face kinds rising, then position or side"
unfoldable pub fault_at : ℕ → Frame → ℕ → Face → ℕ → ℕ → List Fault
fault_at n frame i face kind p = fault_if (has_fault n frame face kind p) (fault kind i p)

unfoldable pub faults_of_kind : ℕ → Frame → ℕ → Face → ℕ → List Fault
faults_of_kind n frame i face kind = each (fault_at n frame i face kind) 0 (positions_of n face kind)

unfoldable pub faults_of_face : ℕ → Frame → ℕ → Face → List Fault
faults_of_face n frame i face = each (faults_of_kind n frame i face) 1 7

-- whether a face has a fault of a kind, or of any
unfoldable pub any_of_kind : ℕ → Frame → Face → ℕ → Bool
any_of_kind n frame face kind = any_of (has_fault n frame face kind) 0 (positions_of n face kind)

-- kinds 1 to 3, of the nodes, and 4 to 7, of the sides
unfoldable pub node_fault : ℕ → Frame → Face → Bool
node_fault n frame face = any_of (any_of_kind n frame face) 1 3

unfoldable pub side_fault : ℕ → Frame → Face → Bool
side_fault n frame face = any_of (any_of_kind n frame face) 4 4

unfoldable pub any_fault : ℕ → Frame → Face → Bool
any_fault n frame face = any_of (any_of_kind n frame face) 1 7

-- "element not 1, 3 (flat) or 2, 4, 5, 6 (solid)"
abbrev pub flat_elements : List ℕ
flat_elements = 1 ∷ 3 ∷ []

abbrev pub solid_elements : List ℕ
solid_elements = 2 ∷ 4 ∷ 5 ∷ 6 ∷ []

unfoldable pub wrong_element : ℕ → ℕ → Bool
wrong_element dim element = elim (eqb dim 2) [ true ↦ not (is_in element flat_elements) | false ↦ not (is_in element solid_elements) ]

-- "3, 4, 4, 6, 5, 5 for elements 1 to 6"
abbrev pub sides_for : ℕ → ℕ
sides_for element = get_or (3 ∷ 4 ∷ 4 ∷ 6 ∷ 5 ∷ 5 ∷ []) (element - 1) 0

-- "type not 0, element 1 to 6, count not .."
abbrev pub wrong_sides : Cell → ℕ → Bool
wrong_sides cell count = not (eqb cell.ztype 0) && ((leb 1 cell.element && leb cell.element 6) && not (eqb count (sides_for cell.element)))

-- the table's lines 8 and 9
unfoldable pub has_cell_fault : Frame → Cell → ℕ → ℕ → Bool
has_cell_fault frame cell count kind =
    elim (eqb kind 8) [
      | true ↦ wrong_element frame.dim cell.element
      | false ↦ elim (eqb kind 9) [ true ↦ wrong_sides cell count | false ↦ false ]
    ]

-- kind 9 tells the count
abbrev pub cell_extra : ℕ → ℕ → ℕ
cell_extra count kind = elim (eqb kind 9) [ true ↦ count | false ↦ 0 ]

-- the faults of the cell of number i: "then cells rising, kinds rising"
unfoldable pub cell_fault_at : Frame → ℕ → Cell → ℕ → ℕ → List Fault
cell_fault_at frame i cell count kind = fault_if (has_cell_fault frame cell count kind) (fault kind i (cell_extra count kind))

unfoldable pub faults_of_cell : Frame → ℕ → Cell → ℕ → List Fault
faults_of_cell frame i cell count = each (cell_fault_at frame i cell count) 8 2

-- whether a cell has a fault of either kind
unfoldable pub any_cell_fault : ℕ → Cell → ℕ → Bool
any_cell_fault dim cell count = wrong_element dim cell.element || wrong_sides cell count
