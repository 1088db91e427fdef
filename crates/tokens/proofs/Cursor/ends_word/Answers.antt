use Rattle.tokens.specs.declared.Run.{Run}
use Rattle.tokens.specs.Tokens.{goes_on}
use mathlib.Core.Bool.{not}
use mathlib.Core.Path.{ap, ◌∙◌}
use Rattle.tokens.proofs.Laws.{ends_byte, ends_file}
use Rattle.tokens.proofs.Cursor.ends_word.Goals as goal

-- src/lib.rt:140:13
pub returns-then-at-s : goal.returns-then-at-s
returns-then-at-s c = ap not (c.goes_on.ensures ∙ ap (λ k. goes_on Run.Word k) c.class_of-c.ensures) ∙ ends_byte _ _ c.if-at-s.true

-- src/lib.rt:134:5
pub returns : goal.returns
returns c = ends_file _ _ c.if-at-s.false
