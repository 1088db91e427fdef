-- No second answer of a public function meets its contract. Assumes nothing.
use mathlib.Core.Path.{sym, ◌∙◌}
use Rattle.facts.specs.Only.{Only}
use Rattle.finds.proofs.marks.mark_from.Reads as mark_from
use Rattle.finds.proofs.quotes.quote_from.Reads as quote_from

pub mark_from_only : Only mark_from.Post
mark_from_only κ a r r' x x' p q = p ∙ sym q

pub quote_from_only : Only quote_from.Post
quote_from_only κ a r r' x x' p q = p ∙ sym q
