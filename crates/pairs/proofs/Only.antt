-- No second answer meets the contract. Assumes nothing.
use mathlib.Core.Path.{sym, ◌∙◌}
use Rattle.facts.specs.Only.{Only}
use Rattle.pairs.proofs.leads.quick_lead.Reads as quick_lead
use Rattle.pairs.proofs.went.quick_pair.Reads as quick_pair

pub quick_pair_only : Only quick_pair.Post
quick_pair_only κ a r r' x x' p q = p ∙ sym q

pub quick_lead_only : Only quick_lead.Post
quick_lead_only κ a r r' x x' p q = p ∙ sym q
