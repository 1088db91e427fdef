-- No second answer and no second content of `out` meets the contracts. Assumes nothing.
use mathlib.Core.Path.{sym, ◌∙◌}
use Rattle.facts.specs.OnlyLeft.{OnlyLeft}
use Rattle.lines.proofs.lines.put_line.Reads as put-line
use Rattle.lines.proofs.listed.put_total.Reads as put-total

pub put_line_only : OnlyLeft (λ κ x. x.0.now) put-line.Post
put_line_only κ a r r' x x' p q = (p.place ∙ sym q.place, p.laid ∙ sym q.laid)

pub put_total_only : OnlyLeft (λ κ x. x.0.now) put-total.Post
put_total_only κ a r r' x x' p q = (p.place ∙ sym q.place, p.laid ∙ sym q.laid)
