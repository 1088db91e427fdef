-- `audit::counts::tally_face` meets its contract: a fault of the sides, or of the nodes. Assumes nothing.
use mathlib.Core.Path.{◌∙◌}
use Rattle.faults.proofs.Any.{any_side, any_node}
use Rattle.audit.proofs.counts.tally_face.Goals as goal

pub returns-then-tally_sides : goal.returns-then-tally_sides
returns-then-tally_sides c =
    let t = c.tally_sides.ensures in
    record { counts = t.counts; answer = c.if-tally_sides.true ∙ any_side _ _ _ t.answer c.if-tally_sides.true }

pub returns-else-tally_sides : goal.returns-else-tally_sides
returns-else-tally_sides c =
    let t = c.tally_sides.ensures in
    record { counts = t.counts; answer = any_node _ _ _ t.answer c.if-tally_sides.false c.any_node_fault.ensures }
