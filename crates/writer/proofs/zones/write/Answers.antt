-- The records of the list, laid into the table, are the records of the list. Assumes nothing.
use Rattle.std.proofs.Common.{arith, ◌∙◌}
use Rattle.writer.proofs.Laid.{some_is}
use Rattle.writer.proofs.zones.write.Goals as goal

pub returns-then-too_many : goal.returns-then-too_many
returns-then-too_many c =
    let a = c.args in (some_is a.dimension a.nodes a.faces a.cells a.mantissas.now a.exponents.now a.facerows.now a.cellrows.now a.zones.now a.text.now).1 (omega (arith, c.if-too_many.true))

pub returns : goal.returns
returns c =
    let a = c.args in
    c.write_flat.ensures
    ∙ (some_is a.dimension a.nodes a.faces a.cells a.mantissas.now a.exponents.now a.facerows.now a.cellrows.now a.zones.now a.text.now).0 c.lay_records.new.flat c.lay_records.ensures
