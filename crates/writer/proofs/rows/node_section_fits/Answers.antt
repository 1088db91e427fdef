use Rattle.std.proofs.Common.{◌∙◌}
use Rattle.writer.proofs.NodeTests.{nodes_are}
use Rattle.writer.proofs.rows.node_section_fits.Goals as goal

pub returns : goal.returns
returns c = rw (c.part.ensures, c.part-2.ensures) at c.nodes_fit.ensures ∙ nodes_are _ _ _ _
