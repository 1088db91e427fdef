-- The bytes of a header and of rows, as the code puts them. Assumes nothing.
use Rattle.std.specs.Prelude.{ℕ, zero, suc, ◌≤◌, List, [], ◌∷◌, ◌++◌, Bool, true, false, ℤ, pos, drop, get_or}
use Rattle.mesh.specs.Rows.{places}
use Rattle.figures.specs.Figures.{figures}
use Rattle.putting.specs.Putting.{words_bytes}
use Rattle.figures.specs.Signed.{coordinate_text}
use Rattle.texts.specs.Pieces.{line, bytes_of}
use Rattle.texts.specs.Texts.{row, rows, element_words, facet_words, mixed_words}
use Rattle.texts.specs.Tabled.{element_of, facet_of}

-- `(`, an id, a header
unfoldable pub head_bytes : ℕ → ℕ → ℕ → ℕ → ℕ → ℕ → List ℕ
head_bytes id zone first last type fifth =
    40 ∷ (figures 10 id ++ (32 ∷ 40 ∷ (figures 16 zone ++ (words_bytes 32 (first ∷ last ∷ type ∷ fifth ∷ []) ++ (41 ∷ [])))))

-- a row, and rows, with the words that g makes of a row
unfoldable pub row_bytes : (List ℕ → List (List ℕ)) → List ℕ → List ℕ
row_bytes g r = bytes_of (row line (g r) [])

unfoldable pub table_bytes : (List ℕ → List (List ℕ)) → List (List ℕ) → List ℕ
table_bytes g rs = bytes_of (rows g rs [])

abbrev pub cell_words_of : List ℕ → List (List ℕ)
cell_words_of r = element_words (element_of r)

abbrev pub face_words_of : Bool → List ℕ → List (List ℕ)
face_words_of true r = mixed_words (facet_of r)
face_words_of false r = facet_words (facet_of r)

-- the row has 1 to 4 nodes
abbrev pub SomeCorners : List ℕ → Type 0
SomeCorners r = (1 ≤ get_or r 0 0) × (get_or r 0 0 ≤ places)

-- coordinates, each behind its blank, the first behind `lead`
unfoldable pub pairs_bytes : ℕ → ℕ → List ℤ → List ℤ → List ℕ
pairs_bytes lead zero ms es = []
pairs_bytes lead (suc d) ms es = lead ∷ (coordinate_text (get_or ms 0 (pos 0)) (get_or es 0 (pos 0)) ++ pairs_bytes 32 d (drop 1 ms) (drop 1 es))

unfoldable pub nodes_bytes : ℕ → List (List ℤ) → List (List ℤ) → List ℕ
nodes_bytes d [] es = []
nodes_bytes d (m ∷ ms) [] = []
nodes_bytes d (m ∷ ms) (e ∷ es) = pairs_bytes 10 d m e ++ nodes_bytes d ms es
