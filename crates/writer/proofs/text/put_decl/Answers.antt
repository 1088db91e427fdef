use Rattle.putting.proofs.Laying.{laid_of, laid_more}
use Rattle.writer.proofs.text.put_decl.Goals as goal

pub returns : goal.returns
returns c = laid_more c.put_head-a.ensures (laid_of c.put_text.ensures)
