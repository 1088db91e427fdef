-- Any two answers that meet the contract stand for the same: the place behind the id is told up to the blanks there. Assumes nothing.
use mathlib.Core.Path.{sym, ◌∙◌}
use Rattle.facts.specs.Alike.{Alike}
use Rattle.steps.specs.Views.{num_view}
use Rattle.ids.proofs.id_at.Reads as id-at

pub id_at_alike : Alike (λ κ a r. num_view a.0.now r) id-at.Post
id_at_alike κ a r r' x x' p q = p.says ∙ sym q.says
