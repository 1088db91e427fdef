-- No second answer of a public function meets its contract. Assumes nothing.
use mathlib.Core.Path.{sym, ◌∙◌}
use Rattle.facts.specs.Only.{Only}
use Rattle.listing.proofs.listed.fifth_listed.Reads as fifth_listed_lem
use Rattle.listing.proofs.listed.type_listed.Reads as type_listed_lem

pub fifth_listed_only : Only fifth_listed_lem.Post
fifth_listed_only κ a r r' x x' p q = p ∙ sym q

pub type_listed_only : Only type_listed_lem.Post
type_listed_only κ a r r' x x' p q = p ∙ sym q
