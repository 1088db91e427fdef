-- Each turn lays one record more. Assumes nothing.
use Rattle.std.proofs.Common.{◌∙◌, arith}
use Rattle.writer.proofs.Laid.{laid_more}
use Rattle.writer.proofs.flat.lay_records.Goals as goal

pub loop-i-preserved : goal.loop-i-preserved
loop-i-preserved c =
    laid_more c.args.zones.now c.loop-i.flat c.loop-i.i _ _ c.loop-i-test.true (omega (arith, c.requires, c.loop-i.auto.flat)) c.loop-i.invariant (c.copy_from_slice.ensures.after ∙ c.words_of.ensures)
