use Rattle.filling.proofs.Single.{value_no, value_is}
use Rattle.filling.proofs.words.value_at.Goals as goal

pub returns-in-Ok : goal.returns-in-Ok
returns-in-Ok c = value_is _ _ c.number_at.ensures _ c.in-Ok.is

pub returns-in-Err : goal.returns-in-Err
returns-in-Err c = value_no _ _ c.number_at.ensures 0 _ c.in-Err.is
