-- No second answer of a public function meets its contract. Assumes nothing.
use mathlib.Core.Path.{sym, ◌∙◌}
use Rattle.facts.specs.Only.{Only}
use Rattle.decimals.proofs.signed.magnitude.Reads as magnitude

pub magnitude_only : Only magnitude.Post
magnitude_only κ a r r' x x' p q = p ∙ sym q
