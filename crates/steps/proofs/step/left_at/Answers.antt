use borrow.Enum.Refused.{opened}
use Rattle.steps.proofs.Taken.{left_is, left_not}
use Rattle.steps.proofs.step.left_at.Goals as goal

pub returns-in_default : goal.returns-in_default
returns-in_default c = left_not _ _ _ c.token-t.ensures (opened c.in_default.in_default-own.keys2)

pub returns : goal.returns
returns c = left_is _ _ _ c.token-t.ensures c.in-Left.is
