use Rattle.blocks.proofs.Blocked.{carry_some}
use Rattle.blocks.proofs.block.carry_of.Goals as goal

pub returns-else-tail-eq0 : goal.returns-else-tail-eq0
returns-else-tail-eq0 c = carry_some _ c.if-tail-eq0.false
