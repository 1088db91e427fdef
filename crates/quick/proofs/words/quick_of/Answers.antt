use mathlib.Core.Path.{sym, ◌∙◌}
use Rattle.quick.proofs.Ending.{quick_none, quick_on, quick_is}
use Rattle.quick.proofs.words.quick_of.Goals as goal

-- src/words.rt:86:9
pub returns-then-n-eq0 : goal.returns-then-n-eq0
returns-then-n-eq0 c = quick_none _ _ _ c.if-n-eq0.true

-- src/words.rt:92:9
pub returns-then-ends : goal.returns-then-ends
returns-then-ends c = quick_is _ _ _ c.if-n-eq0.false (sym c.ends_word-ends.ensures ∙ c.if-ends.true)

-- src/words.rt:80:1
pub returns : goal.returns
returns c = quick_on _ _ _ c.if-n-eq0.false (sym c.ends_word-ends.ensures ∙ c.if-ends.false)
