use Rattle.lines.proofs.Writing.{wrote_more, wrote_within}
use Rattle.lines.proofs.lines.put_last.Goals as goal

-- src/lines.rt:24:5
pub put_text-requires : goal.put_text-requires
put_text-requires c = wrote_within _ _ _ _ _ c.put_number-c.ensures

-- src/lines.rt:19:1
pub returns : goal.returns
returns c = wrote_more _ _ _ _ _ _ _ _ c.put_number-c.ensures c.put_text.ensures
