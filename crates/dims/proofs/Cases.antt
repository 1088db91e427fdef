-- Closed cases of the functions that only our own crates call: the right answer, and what a wrong program would have answered there. Assumes nothing.
use mathlib.Core.Path.{◌≡◌, refl}
use mathlib.Core.Bool.{true, false, ◌||◌}
use lib.Dec.{eqb}
use Rattle.std.specs.Prelude.{Some, None}
use Rattle.layout.specs.Items.{absent, given}
use Rattle.layout.specs.State.{dim_after, dim_listed}
use Rattle.spots.specs.declared.Kind.{Kind}
use Rattle.dims.specs.Dims.{dim_word_for, agrees, known}

-- `dim_listed`: dimension 4 listed for 3
dim_listed_lem : (dim_listed (given 4) ≡ false) × ((eqb 4 2 || eqb 4 4) ≡ true)
dim_listed_lem = (refl, refl)

-- `dim_word`: the element of cells taken for a dimension, as the ND of nodes is one
dim_word_lem : (dim_word_for Kind.Cell (Some 4) ≡ None) × (dim_word_for Kind.Node (Some 4) ≡ Some 4)
dim_word_lem = (refl, refl)

-- `dim_after`: the dimension forgotten at a header without ND
dim_after_lem : (dim_after 2 absent ≡ 2) × (dim_after 0 absent ≡ 0)
dim_after_lem = (refl, refl)

-- `dim_agrees`: a later dimension need not agree
dim_agrees_lem : (agrees 2 (given 3) ≡ false) × ((eqb 2 0 || eqb 2 2) ≡ true)
dim_agrees_lem = (refl, refl)

-- `dim_known`: cells need a dimension, as nodes do
dim_known_lem : (known Kind.Cell 0 ≡ true) × (known Kind.Node 0 ≡ false)
dim_known_lem = (refl, refl)
