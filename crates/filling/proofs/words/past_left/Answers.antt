use Rattle.filling.proofs.Single.{past_no, past_is}
use Rattle.filling.proofs.words.past_left.Goals as goal

pub returns-in-Ok : goal.returns-in-Ok
returns-in-Ok c = past_is _ _ c.left_at.ensures _ c.in-Ok.is

pub returns-in-Err : goal.returns-in-Err
returns-in-Err c = past_no _ _ c.left_at.ensures _ c.in-Err.is
