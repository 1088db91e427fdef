use Rattle.rows.specs.Rows.{corners_of}
use borrow.Author.Tests.{lt-ltb, le-ltb}
use Rattle.rows.proofs.row.corners_of.Goals as goal

pub returns-then-n-le-PLACES : goal.returns-then-n-le-PLACES
unfolding corners_of
returns-then-n-le-PLACES c = rw (le-ltb _ _ c.if-n-le-PLACES.true, corners_of)

pub returns-else-n-le-PLACES : goal.returns-else-n-le-PLACES
unfolding corners_of
returns-else-n-le-PLACES c = rw (lt-ltb _ _ c.if-n-le-PLACES.false, corners_of)
