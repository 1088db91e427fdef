-- No second answer of a public function meets its contract. Assumes nothing.
use mathlib.Core.Path.{sym, ◌∙◌}
use Rattle.facts.specs.Only.{Only}
use Rattle.blocks.proofs.block.block_of.Reads as Block-of

pub block_of_only : Only Block-of.Post
block_of_only κ a r r' x x' p q = p ∙ sym q
