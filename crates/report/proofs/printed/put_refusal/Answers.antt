use Rattle.report.proofs.Printing.{refusal_line}
use Rattle.report.proofs.printed.put_refusal.Goals as goal

-- src/printed.rt:38:1
pub returns : goal.returns
returns c = refusal_line _ _ _ _ _ _ _ c.number_of-number.ensures c.put_line.ensures
