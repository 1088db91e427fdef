use borrow.Author.Tests.{eq-eqb, ne_eqb}
use Rattle.filling.proofs.parts.is_mixed.Goals as goal

pub returns-then-element-eq0 : goal.returns-then-element-eq0
returns-then-element-eq0 c = rw (eq-eqb _ _ c.if-element-eq0.true)

pub returns-else-element-eq0 : goal.returns-else-element-eq0
returns-else-element-eq0 c = rw (ne_eqb _ _ c.if-element-eq0.false)
