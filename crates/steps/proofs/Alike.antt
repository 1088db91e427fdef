-- Any two answers that meet a contract stand for the same: the place behind a thing is told up to the blanks there. Assumes nothing.
use mathlib.Core.Path.{sym, ◌∙◌}
use Rattle.facts.specs.Alike.{Alike}
use Rattle.steps.specs.Views.{close_view, num_view, pair_view}
use Rattle.spots.specs.Pasts.{past_view}
use Rattle.steps.proofs.step.left_at.Reads as left_at
use Rattle.steps.proofs.step.right_at.Reads as right_at
use Rattle.steps.proofs.step.number_at.Reads as number_at
use Rattle.steps.proofs.pair.pair_at.Reads as pair-at

pub left_at_alike : Alike (λ κ a r. past_view a.0.now r) left_at.Post
left_at_alike κ a r r' x x' p q = p.says ∙ sym q.says

pub right_at_alike : Alike (λ κ a r. close_view a.0.now r) right_at.Post
right_at_alike κ a r r' x x' p q = p.says ∙ sym q.says

pub number_at_alike : Alike (λ κ a r. num_view a.0.now r) number_at.Post
number_at_alike κ a r r' x x' p q = p.says ∙ sym q.says

pub pair_at_alike : Alike (λ κ a r. pair_view a.0.now r) pair-at.Post
pair_at_alike κ a r r' x x' p q = p.says ∙ sym q.says
