-- No second answer of a public function meets its contract. Assumes nothing.
use mathlib.Core.Path.{sym, ◌∙◌}
use Rattle.facts.specs.Only.{Only}
use Rattle.faults.proofs.bits.bit_if.Reads as bit-if
use Rattle.faults.proofs.cells.any_cell_fault.Reads as any_cell_fault_lem
use Rattle.faults.proofs.cells.cell_marks.Reads as cell_marks_lem

pub bit_if_only : Only bit-if.Post
bit_if_only κ a r r' x x' p q = p ∙ sym q

pub cell_marks_only : Only cell_marks_lem.Post
cell_marks_only κ a r r' x x' p q = p ∙ sym q

pub any_cell_fault_only : Only any_cell_fault_lem.Post
any_cell_fault_only κ a r r' x x' p q = p ∙ sym q
