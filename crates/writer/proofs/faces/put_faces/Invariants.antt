use Rattle.std.proofs.Common.{drop}
use Rattle.texts.specs.Writes.{Each}
use Rattle.putting.proofs.Laying.{Left}
use Rattle.writer.specs.inner.Rows.{table_bytes, face_words_of, SomeCorners}
use Rattle.writer.proofs.faces.put_faces.Given as goal

abbrev pub invariant-loop-row : goal.invariant-loop-row
invariant-loop-row l = record {
  laying : Left l.initial.out l.at (table_bytes (face_words_of l.mixed) l.rows) l.out l.c (table_bytes (face_words_of l.mixed) (drop l.row-index l.rows));
  corners : Each SomeCorners (drop l.row-index l.rows);
}
