use borrow.Enum.Refused.{opened}
use Rattle.steps.proofs.Taken.{word_moves, offset_in, number_not, number_is, number_bad}
use native.Mathlib.Omega.{arith}
use Rattle.steps.proofs.step.number_at.Goals as goal

pub returns-in_default : goal.returns-in_default
returns-in_default c = number_not _ _ _ c.token-t.ensures c.args.sort (opened c.in_default.in_default-own.keys2)

pub slice_bounds-whole_for-count : goal.slice_bounds-whole_for-count
slice_bounds-whole_for-count c = omega (arith, word_moves _ _ _ c.token-t.ensures c.in-Word.is)

pub slice_bounds-whole_for-start : goal.slice_bounds-whole_for-start
slice_bounds-whole_for-start c = omega (arith, word_moves _ _ _ c.token-t.ensures c.in-Word.is)

pub slice_bounds-whole_for-end : goal.slice_bounds-whole_for-end
slice_bounds-whole_for-end c = omega (arith, word_moves _ _ _ c.token-t.ensures c.in-Word.is)

pub slice_bounds-bad_at-count : goal.slice_bounds-bad_at-count
slice_bounds-bad_at-count c = omega (arith, word_moves _ _ _ c.token-t.ensures c.in-Word.is)

pub slice_bounds-bad_at-start : goal.slice_bounds-bad_at-start
slice_bounds-bad_at-start c = omega (arith, word_moves _ _ _ c.token-t.ensures c.in-Word.is)

pub slice_bounds-bad_at-end : goal.slice_bounds-bad_at-end
slice_bounds-bad_at-end c = omega (arith, word_moves _ _ _ c.token-t.ensures c.in-Word.is)

pub overflow_add-offset : goal.overflow_add-offset
overflow_add-offset c = omega (arith, offset_in _ _ _ c.token-t.ensures _ _ c.in-Word.is c.bad_at-bad.ensures)

pub returns-in_default-v : goal.returns-in_default-v
returns-in_default-v c = number_bad _ _ _ c.token-t.ensures _ c.in-Word.is _ c.whole_for-v.ensures c.in_default-v.is _ c.bad_at-bad.ensures

pub returns : goal.returns
returns c = number_is _ _ _ c.token-t.ensures c.args.sort c.in-Word.is _ c.whole_for-v.ensures _ c.in-Some.is
