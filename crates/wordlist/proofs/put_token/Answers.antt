-- A token other than the end stands in the file, and the cursor goes on behind it.
use Rattle.std.proofs.Common.{arith}
use Rattle.wordlist.proofs.Moves.{moved, goes_ahead}
use Rattle.wordlist.proofs.put_token.Goals as goal

pub slice_bounds-put_word-count : goal.slice_bounds-put_word-count
slice_bounds-put_word-count g c = let m = moved _ _ _ _ c.token-t.ensures c.in-Word.is tt in omega (arith, m.from, m.more, m.most)

pub slice_bounds-put_word-start : goal.slice_bounds-put_word-start
slice_bounds-put_word-start g c = let m = moved _ _ _ _ c.token-t.ensures c.in-Word.is tt in omega (arith, m.from, m.more, m.most)

pub slice_bounds-put_word-end : goal.slice_bounds-put_word-end
slice_bounds-put_word-end g c = let m = moved _ _ _ _ c.token-t.ensures c.in-Word.is tt in omega (arith, m.from, m.more, m.most)

pub returns-in_ok-writeln-in-Left : goal.returns-in_ok-writeln-in-Left
returns-in_ok-writeln-in-Left g c = goes_ahead _ _ _ _ c.token-t.ensures c.in-Left.is tt

pub returns-in_ok-writeln-in-Right : goal.returns-in_ok-writeln-in-Right
returns-in_ok-writeln-in-Right g c = goes_ahead _ _ _ _ c.token-t.ensures c.in-Right.is tt

pub returns-in_ok-writeln-in-Text : goal.returns-in_ok-writeln-in-Text
returns-in_ok-writeln-in-Text g c = goes_ahead _ _ _ _ c.token-t.ensures c.in-Text.is tt

pub returns-in_ok-put_word-in-Word : goal.returns-in_ok-put_word-in-Word
returns-in_ok-put_word-in-Word g c = goes_ahead _ _ _ _ c.token-t.ensures c.in-Word.is tt
