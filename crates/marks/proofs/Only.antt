-- No second answer of a public function meets its contract. Assumes nothing.
use mathlib.Core.Path.{sym, ◌∙◌}
use Rattle.facts.specs.Only.{Only}
use Rattle.marks.proofs.marks_of.Reads as marks_of_lem

pub marks_of_only : Only marks_of_lem.Post
marks_of_only κ a r r' x x' p q = p ∙ sym q
