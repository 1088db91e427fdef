use native.Mathlib.Omega.{arith}
use Rattle.casewords.proofs.Turns.{word_moves, turn_word, turn_other, turn_none}
use Rattle.casewords.proofs.next_number.Goals as goal

pub returns-in-End : goal.returns-in-End
returns-in-End c = turn_none _ _ _ c.token-t.ensures c.in-End.is

pub slice_bounds-hexadecimal-count : goal.slice_bounds-hexadecimal-count
slice_bounds-hexadecimal-count c = omega (arith, word_moves _ _ _ c.token-t.ensures c.in-Word.is)

pub slice_bounds-hexadecimal-start : goal.slice_bounds-hexadecimal-start
slice_bounds-hexadecimal-start c = omega (arith, word_moves _ _ _ c.token-t.ensures c.in-Word.is)

pub slice_bounds-hexadecimal-end : goal.slice_bounds-hexadecimal-end
slice_bounds-hexadecimal-end c = omega (arith, word_moves _ _ _ c.token-t.ensures c.in-Word.is)

pub returns-in-Word : goal.returns-in-Word
returns-in-Word c = turn_word _ _ _ c.token-t.ensures c.in-Word.is _ c.hexadecimal-value.ensures

pub returns-in-Left : goal.returns-in-Left
returns-in-Left c = turn_other _ _ _ c.token-t.ensures c.in-Left.is
