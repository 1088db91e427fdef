-- Bodies judged and not kept: what a reader gives, with its value forgotten. Assumes nothing.
use Rattle.spots.specs.declared.Bad.{Bad}
use Rattle.std.specs.Prelude.{ℕ, zero, suc, ◌≤◌, ◌≡◌, List, ◌&&◌, leb, Result, Ok, Err}
use Rattle.layout.specs.declared.Refusal.{Refusal}
use Rattle.layout.specs.Items.{Kind, node, cell, face, Perhaps, absent, given}
use Rattle.layout.specs.Reading.{Got, got, bad, Reader, Read, ◌>>=◌, pure, check, hex_word, pair_word, rows_of}
use Rattle.layout.specs.Sections.{hex_of, element_of, facing_of, mixed_of}
use Rattle.bodies.specs.declared.bodies.Shape.{Shape}
use Rattle.bodies.specs.declared.rows.Row.{Row}
use Rattle.spots.specs.Pasts.{past_view}

abbrev pub forget : {A : Type 0} → Got A → Got Unit
forget (got a us) = got tt us
forget (bad w o) = bad w o

abbrev pub hex_unit : ℕ → Reader Unit
hex_unit size ts = forget (hex_of size ts)

abbrev pub pair_unit : ℕ → Reader Unit
pair_unit size ts = forget (pair_word size ts)

abbrev pub row_unit : ℕ → Row → Reader Unit
row_unit size Row.Element ts = forget (element_of size ts)
row_unit size (Row.Facing n) ts = forget (facing_of size n ts)
row_unit size Row.Mixed ts = forget (mixed_of size ts)
row_unit size (Row.Point d) ts = forget (rows_of size (pair_word size) d ts)

-- a number from lo to hi
abbrev pub listed_of : ℕ → ℕ → ℕ → Reader Read
listed_of size lo hi = do
  e ← hex_word size
  check (leb lo e.value && leb e.value hi) Refusal.Type e.at do
    pure e

abbrev pub cell_shape : Perhaps → Shape
cell_shape absent = Shape.Never
cell_shape (given zero) = Shape.Rows Row.Element
cell_shape (given (suc e)) = Shape.Bare

abbrev pub face_shape : Perhaps → Shape
face_shape absent = Shape.Never
face_shape (given zero) = Shape.Rows Row.Mixed
face_shape (given (suc c)) = Shape.Rows (Row.Facing (suc c))

abbrev pub shape_of : Kind → ℕ → Perhaps → Shape
shape_of node d v = Shape.Rows (Row.Point d)
shape_of cell d v = cell_shape v
shape_of face d v = face_shape v

-- the place behind is not before `at`
abbrev pub NotBefore : ℕ → Result ℕ Bad → Type 0
NotBefore at (Ok n) = at ≤ n
NotBefore at (Err b) = Unit

pub record LooseAt (s : List ℕ) (at : ℕ) (r : Result ℕ Bad) (g : Got Unit) : Type 0 where
  pub says : past_view s r ≡ g
  pub from : NotBefore at r
