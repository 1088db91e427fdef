-- Rows read from closed tables: a whole row, and one that is cut off, which is none. Assumes nothing.
use Prim.Native.Nat.{ℕ}
use mathlib.Core.Path.{◌≡◌, refl}
use mathlib.Core.List.{List, [], ◌∷◌}
use Rattle.mesh.specs.Rows.{places, no_face, face_at, no_cell, cell_at}

-- a face row and seven words of a second one
abbrev faces : List ℕ
faces = 3 ∷ 11 ∷ 12 ∷ 13 ∷ 0 ∷ 5 ∷ 6 ∷ 36 ∷ 3 ∷ 11 ∷ 12 ∷ 14 ∷ 0 ∷ 5 ∷ 7 ∷ []

face_whole : face_at places faces 0 ≡ record { count = 3; nodes = 11 ∷ 12 ∷ 13 ∷ 0 ∷ []; right = 5; left = 6; ztype = 36 }
unfolding face_at
face_whole = refl

face_ragged : face_at places faces 1 ≡ no_face places
unfolding face_at
face_ragged = refl

-- a cell row and one word of a second one
cell_whole : cell_at (4 ∷ 1 ∷ 6 ∷ []) 0 ≡ record { element = 4; ztype = 1 }
unfolding cell_at
cell_whole = refl

cell_ragged : cell_at (4 ∷ 1 ∷ 6 ∷ []) 1 ≡ no_cell
unfolding cell_at
cell_ragged = refl
