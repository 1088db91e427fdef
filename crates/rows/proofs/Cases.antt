-- Closed cases of the functions that only our own crates call: the right answer, and what a wrong program would have answered there. Assumes nothing.
use Prim.Native.Nat.{ℕ}
use mathlib.Core.Path.{◌≡◌, refl}
use mathlib.Core.List.{List, [], ◌∷◌}
use lib.ListN.{replicate}
use lib.Seq.{sets}
use Rattle.facts.specs.Text.{bytes}
use Rattle.tokens.specs.Tokens.{class_of, run_end, run_at}
use Rattle.digits.specs.Digits.{digit_of, digits_in}
use Rattle.digits.specs.Hexes.{hexes_of}
use Rattle.quick.specs.Quick.{known_of}
use Rattle.mesh.specs.Rows.{places}
use Rattle.layout.specs.Items.{Facet}
use Rattle.layout.specs.Rows.{face_row}
use Rattle.again.specs.Again.{many}
use Rattle.rows.specs.declared.row.Form.{Form}
use Rattle.rows.specs.Rows.{corners_of, facet_at, rows_at, same_rows}

abbrev text : List ℕ
text = bytes "1 2 a 0"

abbrev read : Facet
read = facet_at text 2 0

-- `put_rows`: the right cell in the place of the left
put_rows :
    (sets (replicate 8 9) 0 (rows_at text (Form.Facing 2) 3 1 0) ≡ 2 ∷ 1 ∷ 2 ∷ 0 ∷ 0 ∷ 10 ∷ 0 ∷ 3 ∷ [])
    × (sets (replicate 8 9) 0 (face_row places 3 (record { corners = read.corners; right = read.left; left = read.right })) ≡ 2 ∷ 1 ∷ 2 ∷ 0 ∷ 0 ∷ 0 ∷ 10 ∷ 3 ∷ [])
unfolding class_of run_end run_at digit_of digits_in hexes_of known_of many corners_of rows_at
put_rows = (refl, refl)

-- `put_same`: the element in the place of the type
put_same : (sets (replicate 4 9) 0 (same_rows 3 1 2) ≡ 3 ∷ 1 ∷ 3 ∷ 1 ∷ []) × (sets (replicate 4 9) 0 (same_rows 3 3 2) ≡ 3 ∷ 3 ∷ 3 ∷ 3 ∷ [])
unfolding same_rows
put_same = (refl, refl)
