-- Any two answers that meet the contract stand for the same: the place behind a body is told up to the blanks there. Assumes nothing.
use mathlib.Core.Path.{sym, ◌∙◌}
use Rattle.facts.specs.Alike.{Alike}
use Rattle.spots.specs.Pasts.{past_view}
use Rattle.bodies.proofs.bodies.body_at.Reads as body_at

pub body_at_alike : Alike (λ κ a r. past_view a.0.now r) body_at.Post
body_at_alike κ a r r' x x' p q = p.says ∙ sym q.says
