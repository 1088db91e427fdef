use mathlib.Core.Path.{sym}
use Rattle.facts.proofs.Sets.{sets_out}
use Rattle.rows.specs.Rows.{rows_at}
use Rattle.rows.proofs.body.put_rows.Goals as goal

pub returns-else-k-rows : goal.returns-else-k-rows
returns-else-k-rows c = let a = c.args in sym (sets_out (rows_at a.s.now a.form a.ztype a.n a.at) a.rows.now a.k c.if-k-rows.false)
