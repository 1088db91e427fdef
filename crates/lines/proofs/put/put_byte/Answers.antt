use Rattle.lines.proofs.Writing.{wrote_byte, wrote_full}
use Rattle.lines.proofs.put.put_byte.Goals as goal

-- src/put.rt:16:9
pub returns-then-at-out : goal.returns-then-at-out
returns-then-at-out c = wrote_byte _ _ _ c.if-at-out.true

-- src/put.rt:9:1
pub returns : goal.returns
returns c = wrote_full _ _ _ c.requires c.if-at-out.false
