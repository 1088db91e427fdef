-- `records::lay_number` meets its contract: the loop goes from the last byte to the first, and `Laying` says which bytes stand. Assumes nothing.
use Rattle.records.proofs.Number.{laying_none, laying_more}
use Rattle.records.proofs.lay_number.Goals as goal

pub loop-i-init : goal.loop-i-init
loop-i-init c = laying_none _ _ _

pub loop-i-preserved : goal.loop-i-preserved
loop-i-preserved c = laying_more _ _ _ c.loop-i-test.true c.requires c.loop-i.invariant
