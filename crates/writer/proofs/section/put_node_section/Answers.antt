use Rattle.std.proofs.Common.{ap, sym, ◌∙◌, length}
use Rattle.putting.proofs.Laying.{laid_of, laid_more}
use Rattle.writer.specs.inner.Sections.{node_section}
use Rattle.writer.proofs.Sections.{rows_length}
use Rattle.writer.proofs.section.put_node_section.Goals as goal

pub put_nodes-c-requires : goal.put_nodes-c-requires
put_nodes-c-requires c =
    (c.requires.2, ap length c.part.ensures ∙ rows_length 3 _ _ ∙ sym (ap length c.part-2.ensures ∙ rows_length 3 _ _))

pub returns : goal.returns
unfolding node_section
returns c = laid_more c.put_head-a.ensures (laid_more (laid_of c.put_text-b.ensures) (laid_more (rw (c.part.ensures, c.part-2.ensures) at c.put_nodes-c.ensures) (laid_of c.put_text.ensures)))
