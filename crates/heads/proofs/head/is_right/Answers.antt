use Rattle.tokens.specs.declared.Token.{Token}
use Rattle.heads.proofs.Headers.{right_is, right_not}
use Rattle.heads.proofs.head.is_right.Goals as goal

pub returns-in-Right : goal.returns-in-Right
returns-in-Right c = right_is _ _ _ c.token-t.ensures Token.Right c.in-Right.is

pub returns-in_default : goal.returns-in_default
returns-in_default c = right_not _ _ _ c.token-t.ensures c.in_default.not-Right
