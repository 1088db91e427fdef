-- No second answer of a public function meets its contract. Assumes nothing.
use mathlib.Core.Path.{sym, ◌∙◌}
use Rattle.facts.specs.Only.{Only}
use Rattle.coordinates.proofs.leads.lead.Reads as lead
use Rattle.coordinates.proofs.mild.mild_in.Reads as mild_in
use Rattle.coordinates.proofs.word.coordinate.Reads as coordinate

pub coordinate_only : Only coordinate.Post
coordinate_only κ a r r' x x' p q = p ∙ sym q

pub lead_only : Only lead.Post
lead_only κ a r r' x x' p q = p ∙ sym q

pub mild_in_only : Only mild_in.Post
mild_in_only κ a r r' x x' p q = p ∙ sym q
