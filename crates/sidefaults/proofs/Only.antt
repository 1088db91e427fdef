-- No second answer of a public function meets its contract. Assumes nothing.
use mathlib.Core.Path.{sym, ◌∙◌}
use Rattle.facts.specs.Only.{Only}
use Rattle.sidefaults.proofs.sound.any_side_fault.Reads as any_side_fault
use Rattle.sidefaults.proofs.marks.side_part.Reads as side_part_lem

pub any_side_fault_only : Only any_side_fault.Post
any_side_fault_only κ a r r' x x' p q = p ∙ sym q

pub side_part_only : Only side_part_lem.Post
side_part_only κ a r r' x x' p q = p ∙ sym q
