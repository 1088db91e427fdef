-- Closed cases of the functions that only our own crates call: the right answer, and what a wrong program would have answered there. Assumes nothing.
use mathlib.Core.Path.{◌≡◌, refl}
use mathlib.Core.List.{[], ◌∷◌}
use mathlib.Core.Bool.{true, false}
use Rattle.layout.specs.Items.{cell, face, given}
use Rattle.layout.specs.State.{among, type_listed, fifth_listed}

-- `type_listed`: cell type 31 listed for 32
type_listed_lem : (type_listed cell 31 ≡ false) × (among (0 ∷ 1 ∷ 31 ∷ []) 31 ≡ true)
unfolding among
type_listed_lem = (refl, refl)

-- `fifth_listed`: the elements of a face asked for a cell
fifth_listed_lem : (fifth_listed cell (given 1) ≡ true) × (fifth_listed face (given 1) ≡ false)
unfolding among
fifth_listed_lem = (refl, refl)
