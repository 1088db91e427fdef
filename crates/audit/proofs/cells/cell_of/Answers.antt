-- `audit::cells::cell_of` meets its contract: each word of the row, by the laws of rows. Assumes nothing.
use Rattle.mesh.proofs.Rows.{cell_there}
use borrow.Author.Rules.{rules}
use Rattle.audit.proofs.cells.cell_of.Goals as goal

pub returns : goal.returns
returns c = cell_there _ _ (search rules)
