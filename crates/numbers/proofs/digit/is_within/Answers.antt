-- `is_within` tests both bounds. Assumes nothing.
use borrow.Author.Tests.{le-leb, lt-leb}
use Rattle.numbers.proofs.digit.is_within.Goals as goal

-- not below the lower bound
pub returns-then-low-b : goal.returns-then-low-b
returns-then-low-b c = rw (le-leb _ _ c.if-low-b.true)

-- below the lower bound
pub returns-else-low-b : goal.returns-else-low-b
returns-else-low-b c = rw (lt-leb _ _ c.if-low-b.false)
