use lib.ListN.{drop_of_length-le}
use Rattle.putting.proofs.Putting.{text_more, left_end}
use Rattle.putting.proofs.put.put_text.Goals as goal

pub loop-b-preserved : goal.loop-b-preserved
loop-b-preserved c = text_more _ _ c.loop-b.invariant c.loop-b-test.true c.put_byte-c.ensures

pub returns : goal.returns
returns c = left_end c.loop-b.invariant (drop_of_length-le _ c.loop-b-test.false)
