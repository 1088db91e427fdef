use Rattle.survey.proofs.Filing.{Filing}
use Rattle.sections.specs.Sections.{room_all}
use lib.ListN.{length}
use Prim.Native.Nat.{◌-◌}
use Rattle.survey.proofs.file.file_from.Given as goal

abbrev pub invariant-loop-lists : goal.invariant-loop-lists
invariant-loop-lists l = Filing l.s (room_all l.room) l.initial.places (record { ids = l.ids; firsts = l.firsts; lasts = l.lasts }) l.places l.x l.c l.k

abbrev pub decreases-loop-lists : goal.decreases-loop-lists
decreases-loop-lists l = length l.s - l.c
