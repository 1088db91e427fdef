-- `audit::cells::sound_cells` meets its contract: no cell so far has a fault. Assumes nothing.
use native.Mathlib.Omega.{arith}
use mathlib.Core.Path.{sym, ◌∙◌}
use Rattle.audit.proofs.Loop.{cell_quiet}
use Rattle.audit.proofs.cells.sound_cells.Goals as goal

pub loop-c-preserved : goal.loop-c-preserved
loop-c-preserved c =
    let a = c.args in
    record {
      within = omega arith;
      quiet = c.loop-c.invariant.quiet ∙ cell_quiet _ _ a.counts.now _ _ _ (omega arith) c.cell_of-cell.ensures (sym c.any_cell_fault.ensures ∙ c.if-any_cell_fault.false);
    }
