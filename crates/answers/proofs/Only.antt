-- No second answer, and no second content of what is lent, meets the contracts. Assumes nothing.
use mathlib.Core.Path.{refl, sym, ◌∙◌}
use Rattle.facts.specs.OnlyLeft.{OnlyLeft}
use Rattle.answers.proofs.answers.answer_read.Reads as answer_read
use Rattle.answers.proofs.answers.answer_audit.Reads as answer_audit
use Rattle.answers.proofs.answers.answer_write.Reads as answer-write

pub answer_read_only : OnlyLeft (λ κ x. x.1.0.now) answer_read.Post
answer_read_only κ a r r' x x' p q = (p.0 ∙ sym q.0, p.1 ∙ sym q.1)

pub answer_audit_only : OnlyLeft (λ κ x. x.1.0.now) answer_audit.Post
answer_audit_only κ a r r' x x' p q = (p.0 ∙ sym q.0, p.1 ∙ sym q.1)

pub answer_write_only : OnlyLeft (λ κ x. x.1.0.now) answer-write.Post
answer_write_only κ a r r' x x' p q = (p.0 ∙ sym q.0, p.1 ∙ sym q.1)
