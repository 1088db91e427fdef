-- No second answer and no second content of `out` meets the contract. Assumes nothing.
use mathlib.Core.Path.{sym, ◌∙◌}
use Rattle.facts.specs.OnlyLeft.{OnlyLeft}
use Rattle.report.proofs.printed.report.Reads as report

pub report_only : OnlyLeft (λ κ x. x.1.0.now) report.Post
report_only κ a r r' x x' p q = (p.place ∙ sym q.place, p.laid ∙ sym q.laid)
