use Rattle.writer.proofs.Judging.{Judging}
use Rattle.writer.proofs.records.records_fit.Given as goal

abbrev pub invariant-loop-i : goal.invariant-loop-i
invariant-loop-i l = Judging l.totals l.zones l.rows (record { ids = l.ids; firsts = l.firsts; lasts = l.lasts }) l.n l.i
