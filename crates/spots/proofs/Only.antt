-- No second answer of a public function meets its contract. Assumes nothing.
use mathlib.Core.Path.{sym, ◌∙◌}
use Rattle.facts.specs.Only.{Only}
use Rattle.spots.proofs.Head.word.Reads as word
use Rattle.spots.proofs.Head.place.Reads as place

pub word_only : Only word.Post
word_only κ a r r' x x' p q = p ∙ sym q

pub place_only : Only place.Post
place_only κ a r r' x x' p q = p ∙ sym q
