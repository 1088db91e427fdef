-- Closed cases of the functions that only our own crates call: the right answer, and what a wrong program would have answered there. Assumes nothing.
use mathlib.Core.Path.{◌≡◌, refl}
use mathlib.Core.List.{[], ◌∷◌}
use mathlib.Core.Bool.{true, false}
use Rattle.std.specs.Prelude.{None}
use Rattle.spots.specs.declared.Kind.{Kind}
use Rattle.sofar.specs.declared.Seen.{Seen}
use Rattle.sofar.specs.declared.State.{State}
use Rattle.notes.specs.declared.note.Met.{Met}
use Rattle.notes.specs.Noting.{note_state, note_place}

abbrev unseen : Seen
unseen = record { declared = false; total = 0 }

-- behind "(2 2)(10 (0 1 4 0))(10 (1 1 2 1)(0 0 1 0))"
abbrev before : State
before = record { dim = 2; nodes = record { declared = true; total = 4 }; cells = unseen; faces = unseen; zones = 1 }

-- "(10 (1 3 4 1)", from 42 on
abbrev met : Met
met =
    Met.Part Kind.Node
    (record {
      zone = record { value = 1; at = 47 };
      first = record { value = 3; at = 49 };
      last = record { value = 4; at = 51 };
      ztype = record { value = 1; at = 53 };
      fifth = None;
      place = 0;
      end = 54;
    })

-- `noted`: a regular section not counted
noted : ((note_state before met).zones ≡ 2) × ((note_state before (Met.Dim 2)).zones ≡ 1)
noted = (refl, refl)

-- `keep`: every place kept as the first
keep : (note_place met 1 43 (20 ∷ 0 ∷ []) ≡ 20 ∷ 43 ∷ []) × (note_place met 0 43 (20 ∷ 0 ∷ []) ≡ 43 ∷ 0 ∷ [])
keep = (refl, refl)
