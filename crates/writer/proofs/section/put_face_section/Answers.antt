use Rattle.putting.proofs.Laying.{laid_of, laid_more}
use Rattle.writer.specs.inner.Sections.{face_section}
use Rattle.writer.proofs.section.put_face_section.Goals as goal

pub returns : goal.returns
unfolding face_section
returns c = laid_more c.put_head-a.ensures (laid_more (laid_of c.put_text-b.ensures) (laid_more (rw c.part.ensures at c.put_faces-c.ensures) (laid_of c.put_text.ensures)))
