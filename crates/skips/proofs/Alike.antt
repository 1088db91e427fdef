-- Any two answers that meet a contract stand for the same: the place behind a thing is told up to the blanks there. Assumes nothing.
use mathlib.Core.Path.{sym, ◌∙◌}
use Rattle.facts.specs.Alike.{Alike}
use Rattle.spots.specs.Pasts.{past_view}
use Rattle.skips.proofs.skip.skip_from.Reads as skip_from

pub skip_from_alike : Alike (λ κ a r. past_view a.0.now r) skip_from.Post
skip_from_alike κ a r r' x x' p q = p.says ∙ sym q.says
