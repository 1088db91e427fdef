use borrow.Enum.Refused.{opened}
use Rattle.steps.proofs.Taken.{right_is, right_not}
use Rattle.steps.proofs.step.right_at.Goals as goal

pub returns-in_default : goal.returns-in_default
returns-in_default c = right_not _ _ _ c.token-t.ensures (opened c.in_default.in_default-own.keys2)

pub returns : goal.returns
returns c = right_is _ _ _ c.token-t.ensures c.in-Right.is
