-- `audit::visits::visit` meets its contract: a bit that is set, or is not. Assumes nothing.
use borrow.Author.Tests.{eq-eqb, ne_eqb}
use Rattle.audit.proofs.Loop.{visited_one, visited_none}
use Rattle.audit.proofs.visits.visit.Goals as goal

pub returns-then-bit-eq1 : goal.returns-then-bit-eq1
returns-then-bit-eq1 c = visited_one _ _ _ _ _ _ (eq-eqb _ _ c.if-bit-eq1.true) c.put-pen.ensures

pub returns : goal.returns
returns c = visited_none _ _ _ _ (ne_eqb _ _ c.if-bit-eq1.false)
