-- `audit::counts::tally` meets its contract: a cell, and none. Assumes nothing.
use mathlib.Core.Path.{sym, ◌∙◌}
use Rattle.faults.proofs.Counting.{bump_there, bump_none}
use Rattle.audit.proofs.counts.tally.Goals as goal

pub returns-then-is_cell : goal.returns-then-is_cell
returns-then-is_cell c = c.add_one.ensures ∙ bump_there _ _ _ (sym c.is_cell.ensures ∙ c.if-is_cell.true)

pub returns-else-is_cell : goal.returns-else-is_cell
returns-else-is_cell c = bump_none _ _ _ (sym c.is_cell.ensures ∙ c.if-is_cell.false)
