-- Closed cases of the functions that only our own crates call: the right answer, and what a wrong program would have answered there. Assumes nothing.
use mathlib.Core.Path.{◌≡◌, refl}
use Rattle.layout.specs.declared.Refusal.{Refusal}
use Rattle.layout.specs.Replies.{number_of}

-- `number_of`: Missing given the number of Untiled
number_of_lem : (number_of Refusal.Missing ≡ 13) × (number_of Refusal.Untiled ≡ 14)
number_of_lem = (refl, refl)
