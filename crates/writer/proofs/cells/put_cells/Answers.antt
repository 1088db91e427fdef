use Rattle.putting.proofs.Laying.{laid_whole, left_end}
use Rattle.writer.specs.inner.Rows.{cell_words_of}
use Rattle.writer.proofs.Writing.{cell_laid, table_more, table_none}
use Rattle.writer.proofs.cells.put_cells.Goals as goal

pub loop-row-preserved : goal.loop-row-preserved
loop-row-preserved c = table_more cell_words_of _ _ _ c.loop-row.invariant c.loop-row-test.true (cell_laid _ (laid_whole c.lay_word-c.ensures))

pub returns : goal.returns
returns c = left_end c.loop-row.invariant (table_none _ _ _ c.loop-row-test.false)
