use Rattle.texts.specs.Write.{out}
use Rattle.writer.specs.Writer.{values_of}
use Rattle.boundary.proofs.Kept.{written_of}
use Rattle.boundary.proofs.calls.ravneket_write.Goals as goal

pub returns : goal.returns
returns c =
    let a = c.args in written_of _ a.text.now a.answer.now (out (values_of c.write_flat-written.result) _) c.write_flat-written.ensures _ _ c.answer_write.ensures
