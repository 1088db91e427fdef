-- `sign_at` reads a sign, where one stands. Assumes nothing.
use mathlib.Core.Path.{sym, ◌∙◌}
use Rattle.coordinates.proofs.Places.{sign_minus, sign_plus, sign_none}
use Rattle.coordinates.proofs.sign.sign_at.Goals as goal

-- a minus
pub returns-then-stands_at : goal.returns-then-stands_at
returns-then-stands_at c = sign_minus _ _ (sym c.stands_at.ensures ∙ c.if-stands_at.true)

-- a plus
pub returns-then-stands_at-2 : goal.returns-then-stands_at-2
returns-then-stands_at-2 c = sign_plus _ _ (sym c.stands_at.ensures ∙ c.if-stands_at.false) (sym c.stands_at-2.ensures ∙ c.if-stands_at-2.true)

-- neither
pub returns : goal.returns
returns c = sign_none _ _ c.requires (sym c.stands_at.ensures ∙ c.if-stands_at.false) (sym c.stands_at-2.ensures ∙ c.if-stands_at-2.false)
