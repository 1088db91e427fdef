use Rattle.std.proofs.Common.{drop}
use Rattle.putting.proofs.Laying.{Left}
use Rattle.writer.specs.inner.Rows.{table_bytes, cell_words_of}
use Rattle.writer.proofs.cells.put_cells.Given as goal

abbrev pub invariant-loop-row : goal.invariant-loop-row
invariant-loop-row l = Left l.initial.out l.at (table_bytes cell_words_of l.rows) l.out l.c (table_bytes cell_words_of (drop l.row-index l.rows))
