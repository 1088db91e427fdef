-- No second answer of the public function meets its contract. Assumes nothing.
use mathlib.Core.Path.{sym, ◌∙◌}
use Rattle.facts.specs.Only.{Only}
use Rattle.sizes.proofs.in_force.Reads as in-force

pub in_force_only : Only in-force.Post
in_force_only κ a r r' x x' p q = p ∙ sym q
