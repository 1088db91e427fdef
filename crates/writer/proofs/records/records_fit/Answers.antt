use Rattle.writer.proofs.Judging.{judging_start, judging_off, judging_few, judging_more, judging_end}
use mathlib.Core.Path.{refl}
use Rattle.writer.proofs.records.records_fit.Goals as goal

pub loop-i-init : goal.loop-i-init
loop-i-init c = judging_start _ _ _ _ (record { ids = refl; firsts = refl; lasts = refl }) _ refl c.as_chunks.ensures.front c.as_chunks.ensures.front_len

pub returns-then-not-record_fits : goal.returns-then-not-record_fits
returns-then-not-record_fits c =
    judging_off _ _ _ _ _ _ c.loop-i.invariant _ _ c.zone_of-z.ensures c.loop-i-test.true c.record_fits.ensures c.if-not-record_fits.true

pub bounds-ids-i : goal.bounds-ids-i
bounds-ids-i c = judging_few _ _ _ _ _ _ c.loop-i.invariant _ c.record_fits.ensures c.if-not-record_fits.false

pub bounds-firsts-i : goal.bounds-firsts-i
bounds-firsts-i c = judging_few _ _ _ _ _ _ c.loop-i.invariant _ c.record_fits.ensures c.if-not-record_fits.false

pub bounds-lasts-i : goal.bounds-lasts-i
bounds-lasts-i c = judging_few _ _ _ _ _ _ c.loop-i.invariant _ c.record_fits.ensures c.if-not-record_fits.false

pub loop-i-preserved : goal.loop-i-preserved
loop-i-preserved c =
    judging_more _ _ _ _ _ _ c.loop-i.invariant _ _ c.zone_of-z.ensures c.loop-i-test.true c.record_fits.ensures c.if-not-record_fits.false

pub returns : goal.returns
returns c = judging_end _ _ _ _ _ _ c.loop-i.invariant c.loop-i-test.false c.all_tiled.ensures
