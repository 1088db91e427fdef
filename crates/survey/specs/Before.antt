-- What is known of a file before its first section. Assumes nothing.
use Rattle.std.specs.Prelude.{false}
use Rattle.sofar.specs.declared.Seen.{Seen}
use Rattle.sofar.specs.declared.State.{State}

abbrev pub unseen : Seen
unseen = record { declared = false; total = 0 }

abbrev pub nothing : State
nothing = record { dim = 0; nodes = unseen; cells = unseen; faces = unseen; zones = 0 }
