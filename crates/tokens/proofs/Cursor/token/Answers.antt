-- `tokens::Cursor::token` meets its contract: each way to a step is a case of the definition. Assumes nothing.
use mathlib.Core.Path.{ap, sym, ◌∙◌}
use Rattle.tokens.specs.declared.Class.{Class}
use Rattle.tokens.specs.declared.Token.{Token}
use Rattle.tokens.specs.Tokens.{step_of, token_of}
use Rattle.tokens.proofs.Laws.{token_is, token_end, text_closed, text_unclosed}
use Rattle.tokens.proofs.Cursor.token.Goals as goal

-- the end of the file
pub returns-then-size-start : goal.returns-then-size-start
returns-then-size-start c = c.step_of.ensures ∙ token_end _ _ _ c.run_end-start.ensures c.if-size-start.true

-- a string. Here and below, w is where the arm is told its class, b behind `class_of`
pub returns-then-end-size : goal.returns-then-end-size
returns-then-end-size c =
    c.step_of-then-end-size.ensures ∙ text_closed _ _ _ c.run_end-end.ensures c.if-end-size.true
    ∙ token_is _ _ _ c.run_end-start.ensures Class.Quote c.if-size-start.false
    (sym c.in-Quote.is ∙ c.class_of-c.ensures)

-- `(`
pub returns-in-Left : goal.returns-in-Left
unfolding token_of
returns-in-Left c =
    c.step_of-in-Left.ensures ∙ token_is _ _ _ c.run_end-start.ensures Class.Left c.if-size-start.false
    (sym c.in-Left.is ∙ c.class_of-c.ensures)

-- `)`
pub returns-in-Right : goal.returns-in-Right
unfolding token_of
returns-in-Right c =
    c.step_of-in-Right.ensures ∙ token_is _ _ _ c.run_end-start.ensures Class.Right c.if-size-start.false
    (sym c.in-Right.is ∙ c.class_of-c.ensures)

-- an unclosed string
pub returns-else-end-size : goal.returns-else-end-size
returns-else-end-size c =
    c.step_of-in-Quote.ensures ∙ text_unclosed _ _ _ c.run_end-end.ensures c.if-end-size.false
    ∙ token_is _ _ _ c.run_end-start.ensures Class.Quote c.if-size-start.false
    (sym c.in-Quote.is ∙ c.class_of-c.ensures)

-- a word
pub returns-in-Other : goal.returns-in-Other
unfolding token_of
returns-in-Other c =
    c.step_of-in-Other.ensures ∙ ap (step_of Token.Word _) c.run_end-end-in-Other.ensures
    ∙ token_is _ _ _ c.run_end-start.ensures Class.Other c.if-size-start.false
    (sym c.in-Other.is ∙ c.class_of-c.ensures)

-- a blank, which never stands behind the blanks: the definition says the same of it
pub returns-in-Blank : goal.returns-in-Blank
unfolding token_of
returns-in-Blank c =
    c.step_of-in-Blank.ensures ∙ token_is _ _ _ c.run_end-start.ensures Class.Blank c.if-size-start.false
    (sym c.in-Blank.is ∙ c.class_of-c.ensures)
