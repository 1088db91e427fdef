use Prim.Native.Nat.{◌≤◌, ◌-◌, ◌+◌, ◌*◌}
use mathlib.Core.Path.{◌≡◌}
use lib.ListN.{get_or}
use Rattle.mesh.specs.Rows.{cell_at}
use Rattle.faults.specs.Over.{each}
use Rattle.faults.specs.Faults.{cell_fault_at, faults_of_cell}
use Rattle.faults.specs.All.{cell_faults}
use Rattle.audit.proofs.Loop.{Lays}
use Rattle.audit.proofs.Listing.{cell_bits}
use Rattle.audit.proofs.cells.audit_cells.Given as goal

abbrev pub invariant-kinds : goal.invariant-kinds
invariant-kinds l = (l.marks ≡ cell_bits l.frame (cell_at l.rows l.c) l.count l.kind)
    × Lays l.initial.list l.initial.s (each (cell_fault_at l.frame l.number (cell_at l.rows l.c) l.count) l.kind (10 - l.kind)) (faults_of_cell l.frame l.number (cell_at l.rows l.c) l.count) (l.kind - 8) l.list l.s

abbrev pub invariant-cells : goal.invariant-cells
invariant-cells l = (l.c ≤ l.cells)
    × Lays l.initial.list l.initial.s (each (cell_faults l.frame l.rows (λ i. get_or l.counts (i - 1) 0)) (l.c + 1) (l.cells - l.c))
    (each (cell_faults l.frame l.rows (λ i. get_or l.counts (i - 1) 0)) 1 l.cells) (2 * l.c) l.list l.s
