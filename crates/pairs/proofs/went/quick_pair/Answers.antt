-- `quick_pair` looks at a coordinate's shape and at the byte behind it. Assumes nothing.
use mathlib.Core.Path.{sym, ◌∙◌}
use Rattle.pairs.proofs.Going.{went_past, mild_here, went_none, went_on, went_to, went_fits}
use native.Mathlib.Omega.{arith}
use Rattle.pairs.proofs.went.quick_pair.Goals as goal

-- the end of the file
pub returns-then-size-start : goal.returns-then-size-start
returns-then-size-start c = went_past _ _ _ c.start-start.ensures c.if-size-start.true

-- no mild coordinate
pub returns-in_err-count : goal.returns-in_err-count
returns-in_err-count c =
    let b = c.start-start.ensures in
    c.from_residual.ensures
    ∙ went_none _ _ _ b _ (mild_here _ _ _ _ _ b (omega (arith, c.if-size-start.false)) c.window_end-end.ensures c.mild_in.ensures) c.in_err-count.was

pub overflow_add-next : goal.overflow_add-next
overflow_add-next c =
    let b = c.start-start.ensures in
    omega (
      arith,
      went_fits _ _ _ b _ (mild_here _ _ _ _ _ b (omega (arith, c.if-size-start.false)) c.window_end-end.ensures c.mild_in.ensures) _
          c.in_ok-count.was,
    )

-- one, and the word ends
pub returns-then-ends_word : goal.returns-then-ends_word
returns-then-ends_word c =
    let b = c.start-start.ensures in
    went_to _ _ _ b _ (mild_here _ _ _ _ _ b (omega (arith, c.if-size-start.false)) c.window_end-end.ensures c.mild_in.ensures) _
    c.in_ok-count.was (sym c.ends_word.ensures ∙ c.if-ends_word.true)

-- one, and the word goes on
pub returns : goal.returns
returns c =
    let b = c.start-start.ensures in
    went_on _ _ _ b _ (mild_here _ _ _ _ _ b (omega (arith, c.if-size-start.false)) c.window_end-end.ensures c.mild_in.ensures) _
    c.in_ok-count.was (sym c.ends_word.ensures ∙ c.if-ends_word.false)
