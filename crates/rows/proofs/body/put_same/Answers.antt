use mathlib.Core.Path.{sym}
use Rattle.facts.proofs.Sets.{sets_out}
use Rattle.rows.specs.Rows.{same_rows}
use Rattle.rows.proofs.body.put_same.Goals as goal

pub returns-else-k-rows : goal.returns-else-k-rows
returns-else-k-rows c = let a = c.args in sym (sets_out (same_rows a.element a.ztype a.n) a.rows.now a.k c.if-k-rows.false)
