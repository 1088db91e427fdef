-- No second answer meets the contract. Assumes nothing.
use mathlib.Core.Path.{sym, ◌∙◌}
use Rattle.facts.specs.Only.{Only}
use Rattle.twos.proofs.known_two.Reads as known_two

pub known_two_only : Only known_two.Post
known_two_only κ a r r' x x' p q = p.same ∙ sym q.same
