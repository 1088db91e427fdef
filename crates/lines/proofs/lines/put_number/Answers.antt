use Rattle.lines.proofs.Writing.{wrote_more, wrote_within}
use Rattle.lines.proofs.lines.put_number.Goals as goal

-- src/lines.rt:15:5
pub put_decimal-requires : goal.put_decimal-requires
put_decimal-requires c = wrote_within _ _ _ _ _ c.put_text-c.ensures

-- src/lines.rt:10:1
pub returns : goal.returns
returns c = wrote_more _ _ _ _ _ _ _ _ c.put_text-c.ensures c.put_decimal.ensures
