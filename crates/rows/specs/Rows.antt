-- Rows of faces and cells, stored as they are read, whatever stands there. Steps of the code, which no mesher need read: on a good file they are the rows that the text says (proofs/Good). Assumes nothing.
use Rattle.std.specs.Prelude.{ℕ, List, [], ◌∷◌, true, false, ltb, replicate}
use Rattle.mesh.specs.Rows.{places}
use Rattle.layout.specs.Items.{Facet}
use Rattle.layout.specs.Rows.{joined, face_row}
use Rattle.again.specs.Again.{Taken, many}
use Rattle.rows.specs.declared.row.Form.{Form}
use Rattle.rows.specs.Words.{word_at, words_at}

-- a row has places for so many
unfoldable pub corners_of : ℕ → ℕ
corners_of n = elim (ltb places n) [ true ↦ 0 | false ↦ n ]

-- a face of n nodes
abbrev pub facet_at : List ℕ → ℕ → ℕ → Facet
facet_at s n at =
    record {
      corners = (words_at s n at).thing;
      right = (word_at s (words_at s n at).next).thing;
      left = (word_at s (word_at s (words_at s n at).next).next).thing;
    }

abbrev pub facing_at : List ℕ → ℕ → ℕ → ℕ → Taken ℕ (List ℕ)
facing_at s n t at = record { thing = face_row places t (facet_at s n at); next = (words_at s 2 (words_at s n at).next).next }

-- a face that says its number of nodes
abbrev pub mixed_at : List ℕ → ℕ → ℕ → Taken ℕ (List ℕ)
mixed_at s t at = facing_at s (corners_of (word_at s at).thing) t (word_at s at).next

-- a cell that says its element
abbrev pub element_at : List ℕ → ℕ → ℕ → Taken ℕ (List ℕ)
element_at s t at = record { thing = (word_at s at).thing ∷ t ∷ []; next = (word_at s at).next }

abbrev pub row_at : List ℕ → Form → ℕ → ℕ → Taken ℕ (List ℕ)
row_at s (Form.Facing n) t at = facing_at s (corners_of n) t at
row_at s Form.Mixed t at = mixed_at s t at
row_at s Form.Element t at = element_at s t at

abbrev pub width_of : Form → ℕ
width_of (Form.Facing n) = 8
width_of Form.Mixed = 8
width_of Form.Element = 2

-- n rows one behind the other
unfoldable pub rows_at : List ℕ → Form → ℕ → ℕ → ℕ → List ℕ
rows_at s form t n at = joined (many (λ p. row_at s form t p) n at).thing

-- "Others have no body": n rows of a cell with the section's element
unfoldable pub same_rows : ℕ → ℕ → ℕ → List ℕ
same_rows e t n = joined (replicate n (e ∷ t ∷ []))
