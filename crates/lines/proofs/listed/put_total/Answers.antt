use Rattle.lines.proofs.Writing.{wrote_more, wrote_within}
use Rattle.lines.proofs.listed.put_total.Goals as goal

-- src/printed.rt:53:9
pub put_last-d-requires : goal.put_last-d-requires
put_last-d-requires c = wrote_within _ _ _ _ _ c.put_text-c.ensures

-- src/printed.rt:54:5
pub put_faults-requires : goal.put_faults-requires
put_faults-requires c = wrote_within _ _ _ _ _ c.put_last-d.ensures

-- src/printed.rt:47:1
pub returns : goal.returns
returns c = wrote_more _ _ _ _ _ _ _ _ (wrote_more _ _ _ _ _ _ _ _ c.put_text-c.ensures c.put_last-d.ensures) c.put_faults.ensures
