-- No second answer of a public function meets its contract. Assumes nothing.
use mathlib.Core.Path.{sym, ◌∙◌}
use Rattle.facts.specs.Only.{Only}
use Rattle.endings.proofs.last_of.Reads as last_of
use Rattle.endings.proofs.by_lists.last_by_lists.Reads as last_by_lists

pub last_of_only : Only last_of.Post
last_of_only κ a r r' x x' p q = p ∙ sym q

pub last_by_lists_only : Only last_by_lists.Post
last_by_lists_only κ a r r' x x' p q = p ∙ sym q
