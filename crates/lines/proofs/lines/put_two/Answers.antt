use Rattle.lines.proofs.Writing.{wrote_more, wrote_within}
use Rattle.lines.proofs.lines.put_two.Goals as goal

-- src/lines.rt:33:5
pub put_last-requires : goal.put_last-requires
put_last-requires c = wrote_within _ _ _ _ _ c.put_number-c.ensures

-- src/lines.rt:28:1
pub returns : goal.returns
returns c = wrote_more _ _ _ _ _ _ _ _ c.put_number-c.ensures c.put_last.ensures
