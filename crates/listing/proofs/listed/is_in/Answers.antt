use mathlib.Core.Path.{◌∙◌}
use Rattle.listing.proofs.Listing.{among_any}
use Rattle.listing.proofs.listed.is_in.Goals as goal

pub returns : goal.returns
returns c = c.contains.ensures.value ∙ among_any c.args.list.now c.args.t
