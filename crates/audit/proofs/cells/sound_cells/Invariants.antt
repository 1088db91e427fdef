use Prim.Native.Nat.{◌-◌}
use lib.ListN.{get_or}
use Rattle.faults.specs.All.{cell_faults}
use Rattle.audit.specs.Steps.{Passed}
use Rattle.audit.proofs.cells.sound_cells.Given as goal

abbrev pub invariant-loop-c : goal.invariant-loop-c
invariant-loop-c l = Passed (cell_faults l.frame l.rows (λ i. get_or l.counts (i - 1) 0)) l.cells l.c
