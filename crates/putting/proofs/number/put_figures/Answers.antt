use Rattle.std.proofs.Common.{arith}
use Rattle.putting.proofs.Figuring.{put_counted}
use Rattle.putting.proofs.number.put_figures.Goals as goal

pub returns-then-size-at : goal.returns-then-size-at
returns-then-size-at g c = put_counted _ _ _ (omega arith) _ _ c.requires.2 c.saturating_add-next.ensures c.if-size-at.true
