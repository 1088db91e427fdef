-- No second answer of the public function, and no second content of the slice lent to it, meets its contract. Assumes nothing.
use mathlib.Core.Path.{sym, ◌∙◌}
use Rattle.facts.specs.OnlyLeft.{OnlyLeft}
use Rattle.casewords.proofs.numbers_of.Reads as numbers_of

pub numbers_of_only : OnlyLeft (λ κ x. x.1.0.now) numbers_of.Post
numbers_of_only κ a r r' x x' p q = (p.1 ∙ sym q.1, p.0 ∙ sym q.0)
