use Rattle.steps.proofs.Quickly.{leads_pair}
use Rattle.steps.proofs.pair.pair_at.Goals as goal

-- found
pub returns : goal.returns
returns c = leads_pair _ _ _ c.quick_lead.ensures _ c.in-Some.is
