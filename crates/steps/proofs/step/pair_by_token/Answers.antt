use borrow.Enum.Refused.{opened}
use Rattle.steps.proofs.Taken.{word_moves, offset_in, pair_not, pair_is, pair_bad}
use native.Mathlib.Omega.{arith}
use Rattle.steps.proofs.step.pair_by_token.Goals as goal

pub returns-in_default : goal.returns-in_default
returns-in_default c = pair_not _ _ _ c.token-t.ensures (opened c.in_default.in_default-own.keys2)

pub slice_bounds-coordinate-count : goal.slice_bounds-coordinate-count
slice_bounds-coordinate-count c = omega (arith, word_moves _ _ _ c.token-t.ensures c.in-Word.is)

pub slice_bounds-coordinate-start : goal.slice_bounds-coordinate-start
slice_bounds-coordinate-start c = omega (arith, word_moves _ _ _ c.token-t.ensures c.in-Word.is)

pub slice_bounds-coordinate-end : goal.slice_bounds-coordinate-end
slice_bounds-coordinate-end c = omega (arith, word_moves _ _ _ c.token-t.ensures c.in-Word.is)

pub slice_bounds-bad_at-count : goal.slice_bounds-bad_at-count
slice_bounds-bad_at-count c = omega (arith, word_moves _ _ _ c.token-t.ensures c.in-Word.is)

pub slice_bounds-bad_at-start : goal.slice_bounds-bad_at-start
slice_bounds-bad_at-start c = omega (arith, word_moves _ _ _ c.token-t.ensures c.in-Word.is)

pub slice_bounds-bad_at-end : goal.slice_bounds-bad_at-end
slice_bounds-bad_at-end c = omega (arith, word_moves _ _ _ c.token-t.ensures c.in-Word.is)

pub overflow_add-offset : goal.overflow_add-offset
overflow_add-offset c = omega (arith, offset_in _ _ _ c.token-t.ensures _ _ c.in-Word.is c.bad_at-bad.ensures)

pub returns-in_default-d : goal.returns-in_default-d
returns-in_default-d c = pair_bad _ _ _ c.token-t.ensures c.in-Word.is _ c.coordinate-d.ensures c.in_default-d.is _ c.bad_at-bad.ensures

pub returns : goal.returns
returns c = pair_is _ _ _ c.token-t.ensures c.in-Word.is _ c.coordinate-d.ensures _ c.in-Some.is
