-- Zone records laid one behind the other, six words each, as the code lays them. Assumes nothing.
use Rattle.std.specs.Prelude.{ℕ, List, [], ◌∷◌, ◌++◌}
use Rattle.mesh.specs.declared.Zone.{Zone}

-- "section id, zone, first, last, type, element"
abbrev pub words_of : Zone → List ℕ
words_of z = z.section ∷ z.zone ∷ z.first ∷ z.last ∷ z.ztype ∷ z.element ∷ []

abbrev pub flat_of : List Zone → List ℕ
flat_of [] = []
flat_of (z ∷ zs) = words_of z ++ flat_of zs
