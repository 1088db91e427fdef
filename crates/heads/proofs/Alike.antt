-- Any two answers that meet a contract stand for the same: the place behind a thing is told up to the blanks there. Assumes nothing.
use mathlib.Core.Path.{sym, ◌∙◌}
use Rattle.facts.specs.Alike.{Alike}
use Rattle.heads.specs.Heads.{head_view}
use Rattle.heads.proofs.head.head_at.Reads as head_at

pub head_at_alike : Alike (λ κ a r. head_view a.0.now r) head_at.Post
head_at_alike κ a r r' x x' p q = p.says ∙ sym q.says
