-- No second content of what is lent meets the contracts of the storing calls. Assumes nothing.
use mathlib.Core.Path.{sym, refl, ◌∙◌}
use Rattle.facts.specs.OnlyLeft.{OnlyLeft}
use Rattle.rows.proofs.body.put_rows.Reads as put-rows
use Rattle.rows.proofs.body.put_same.Reads as put_same

pub put_rows_only : OnlyLeft (λ κ x. x.1.1.1.1.1.0.now) put-rows.Post
put_rows_only κ a r r' x x' p q = (refl, p ∙ sym q)

pub put_same_only : OnlyLeft (λ κ x. x.1.1.1.0.now) put_same.Post
put_same_only κ a r r' x x' p q = (refl, p ∙ sym q)
