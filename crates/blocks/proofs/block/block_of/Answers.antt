use Rattle.blocks.proofs.Blocked.{by_mixed, by_none, by_long, by_words, block_by_lem}
use lib.Count.{trailing_le}
use native.Mathlib.Omega.{arith}
use Rattle.blocks.proofs.block.block_of.Goals as goal

pub returns-then-none-eq0 : goal.returns-then-none-eq0
returns-then-none-eq0 c = block_by_lem c.args.x c.args.tail c.marks-none.ensures c.blanks-blank.ensures (by_none _ _ _ c.if-none-blank.false c.if-none-eq0.true)

pub overflow_sub-room : goal.overflow_sub-room
overflow_sub-room c = omega (arith, trailing_le 64 c.marks-none.result)

pub returns-then-room-tail : goal.returns-then-room-tail
returns-then-room-tail c =
    block_by_lem c.args.x c.args.tail c.marks-none.ensures c.blanks-blank.ensures (by_long _ _ _ c.if-none-blank.false c.if-none-eq0.false c.if-room-tail.true)

pub returns : goal.returns
returns c =
    block_by_lem c.args.x c.args.tail c.marks-none.ensures c.blanks-blank.ensures (by_words _ _ _ c.if-none-blank.false c.if-none-eq0.false c.if-room-tail.false _ c.words_in-words.ensures)

pub returns-then-none-blank : goal.returns-then-none-blank
returns-then-none-blank c = block_by_lem c.args.x c.args.tail c.marks-none.ensures c.blanks-blank.ensures (by_mixed _ _ _ c.if-none-blank.true)
