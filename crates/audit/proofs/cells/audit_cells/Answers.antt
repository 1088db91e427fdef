-- `audit::cells::audit_cells` meets its contract: each loop holds what is left to lay. Assumes nothing.
use Prim.Native.Nat.{◌+◌}
use native.Mathlib.Omega.{arith}
use mathlib.Core.Path.{refl}
use Rattle.faults.specs.Faults.{faults_of_cell}
use Rattle.audit.proofs.Loop.{begun, start, turn, skip, done, cell_visited}
use Rattle.audit.proofs.Listing.{cell_bits_at, cell_here, cell_rest, kind_visited}
use Rattle.audit.proofs.cells.audit_cells.Goals as goal

pub cells-init : goal.cells-init
cells-init c = let e = c.sound_cells-sound.ensures.passed in (e.within, skip e.quiet (begun _))

pub kinds-init : goal.kinds-init
unfolding faults_of_cell
kinds-init c = (cell_bits_at _ _ _ _ _ c.cell_of-cell.ensures c.cell_marks-marks.ensures, start _ 8 8 10 2 0 refl)

pub cells-preserved : goal.cells-preserved
cells-preserved c = (
  omega arith,
  turn _ (c.cells.c + 1) _ _ 2 _ (omega arith) (omega arith) c.cells.invariant.1
      (cell_visited _ _ c.args.counts.now _ (done _ _ _ _ 2 (omega arith) (omega arith) c.kinds.invariant.1)),
)

pub visit-s-requires : goal.visit-s-requires
visit-s-requires c = omega (arith, c.kinds.invariant.1.few, c.cells.invariant.1.few, c.requires.2)

pub kinds-preserved : goal.kinds-preserved
kinds-preserved c = (
  cell_rest _ _ _ _ c.kinds.invariant.0 (omega arith),
  turn _ c.kinds.kind _ 10 1 _ (omega arith) (omega arith) c.kinds.invariant.1 (kind_visited _ _ _ _ _ (cell_here _ _ _ _ c.kinds.invariant.0 (omega arith)) c.extra_of.ensures c.visit-s.ensures),
)

pub returns : goal.returns
returns c = done _ _ _ _ _ (omega arith) (omega arith) c.cells.invariant.1
