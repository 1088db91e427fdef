use Rattle.putting.proofs.Laying.{left_end}
use Rattle.writer.specs.inner.Rows.{face_words_of}
use Rattle.writer.proofs.Writing.{table_more, table_none, corners_rest}
use Rattle.writer.proofs.faces.put_faces.Goals as goal

pub loop-row-preserved : goal.loop-row-preserved
loop-row-preserved c =
    let g = c.loop-row.invariant in
    record { laying = table_more (face_words_of c.args.mixed) _ _ _ g.laying c.loop-row-test.true c.put_facet-c.ensures; corners = corners_rest _ _ c.loop-row-test.true g.corners }

pub returns : goal.returns
returns c = left_end c.loop-row.invariant.laying (table_none _ _ _ c.loop-row-test.false)
