use Rattle.std.specs.Prelude.{Some}
use mathlib.Core.Path.{ap, ◌∙◌}
use Rattle.ids.proofs.Figured.{figure_out, figure_low, figure_high, figure_is}
use native.Mathlib.Omega.{arith}
use Rattle.ids.proofs.figure_at.Goals as goal

-- src/lib.rt:21:9
pub returns-then-s-at : goal.returns-then-s-at
returns-then-s-at c = figure_out _ _ c.if-s-at.true

-- src/lib.rt:25:9
pub returns-then-b-lt48 : goal.returns-then-b-lt48
returns-then-b-lt48 c = figure_low _ _ c.if-b-lt48.true

-- src/lib.rt:28:9
pub returns-then-b-gt57 : goal.returns-then-b-gt57
returns-then-b-gt57 c = figure_high _ _ (omega (arith, c.if-b-lt48.false)) c.if-b-gt57.true

-- src/lib.rt:17:1
pub returns : goal.returns
returns c = ap Some c.from.ensures ∙ figure_is _ _ (omega (arith, c.if-b-lt48.false)) (omega (arith, c.if-b-gt57.false))
