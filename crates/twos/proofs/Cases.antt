-- Closed cases of the functions that only our own crates call: the right answer, and what a wrong program would have answered there. Assumes nothing.
use mathlib.Core.Path.{◌≡◌, refl}
use lib.Count.{count_trailing_zeros}
use Rattle.facts.specs.Text.{bytes}
use Rattle.digits.specs.Lanes.{lanes}
use Rattle.digits.specs.Couples.{ends_of, nibbles_of, couple, couple_of}
use Rattle.twos.specs.Twos.{two, two_by, two_of}

-- `known_two`: the place behind the first word answered, not the one behind the second
known_two : (two_of (bytes " 1f 20 3 ") 0 ≡ two 0x1f 0x20 6) × (two_by (bytes " 1f 20 3 ") 1 (couple 0x1f 0x20 2 2) ≡ two 0x1f 0x20 3)
unfolding count_trailing_zeros lanes ends_of nibbles_of couple_of two_of
known_two = (refl, refl)
