-- No second answer meets the contract. Assumes nothing.
use mathlib.Core.Path.{sym, ◌∙◌}
use Rattle.facts.specs.Only.{Only}
use Rattle.numbering.proofs.number_of.Reads as number_of_lem

pub number_of_only : Only number_of_lem.Post
number_of_only κ a r r' x x' p q = p ∙ sym q
