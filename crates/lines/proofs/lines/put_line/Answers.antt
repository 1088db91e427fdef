use Rattle.lines.proofs.Writing.{wrote_more, wrote_within}
use Rattle.lines.proofs.lines.put_line.Goals as goal

-- src/lines.rt:41:9
pub put_number-j-requires : goal.put_number-j-requires
put_number-j-requires c = wrote_within _ _ _ _ _ c.put_text-i.ensures

-- src/lines.rt:42:5
pub put_two-requires : goal.put_two-requires
put_two-requires c = wrote_within _ _ _ _ _ c.put_number-j.ensures

-- src/lines.rt:37:1
pub returns : goal.returns
returns c = wrote_more _ _ _ _ _ _ _ _ c.put_text-i.ensures (wrote_more _ _ _ _ _ _ _ _ c.put_number-j.ensures c.put_two.ensures)
