use borrow.Author.Tests.{eq-eqb, ne_eqb}
use Rattle.putting.proofs.Laying.{laid_of, laid_more}
use Rattle.writer.specs.inner.Sections.{cell_section}
use Rattle.writer.proofs.section.put_cell_section.Goals as goal

pub returns-then-z-eq0 : goal.returns-then-z-eq0
unfolding cell_section
returns-then-z-eq0 c =
    rw (eq-eqb c.args.z.element 0 c.if-z-eq0.true) (laid_more c.put_head-a.ensures (laid_more (laid_of c.put_text-b.ensures) (laid_more (rw c.part.ensures at c.put_cells-c.ensures) (laid_of c.put_text.ensures))))

pub returns : goal.returns
unfolding cell_section
returns c = rw (ne_eqb c.args.z.element 0 c.if-z-eq0.false) (laid_more c.put_head-a.ensures (laid_of c.put_text-2.ensures))
