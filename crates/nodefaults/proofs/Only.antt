-- No second answer of a public function meets its contract. Assumes nothing.
use mathlib.Core.Path.{sym, ◌∙◌}
use Rattle.facts.specs.Only.{Only}
use Rattle.nodefaults.proofs.sound.any_node_fault.Reads as any_node_fault
use Rattle.nodefaults.proofs.marks.node_part.Reads as node_part_lem

pub any_node_fault_only : Only any_node_fault.Post
any_node_fault_only κ a r r' x x' p q = p ∙ sym q

pub node_part_only : Only node_part_lem.Post
node_part_only κ a r r' x x' p q = p ∙ sym q
