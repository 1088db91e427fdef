use Rattle.writer.proofs.Verdict.{verdict_front, verdict_records, verdict_ranged, verdict_rows}
use Rattle.writer.proofs.judge.is_writable.Goals as goal

pub returns-then-not-front_fits : goal.returns-then-not-front_fits
returns-then-not-front_fits c = verdict_front c.args.totals c.args.tables c.args.zones.now c.front_fits.ensures c.if-not-front_fits.true

pub returns-then-not-records_fit : goal.returns-then-not-records_fit
returns-then-not-records_fit c =
    verdict_records c.args.totals c.args.tables c.args.zones.now c.front_fits.ensures c.if-not-front_fits.false c.records_fit.ensures c.if-not-records_fit.true

pub rows_fit-requires : goal.rows_fit-requires
rows_fit-requires c =
    verdict_ranged c.args.totals c.args.tables c.args.zones.now c.front_fits.ensures c.if-not-front_fits.false c.records_fit.ensures c.if-not-records_fit.false

pub returns : goal.returns
returns c =
    verdict_rows c.args.totals c.args.tables c.args.zones.now c.front_fits.ensures c.if-not-front_fits.false c.records_fit.ensures c.if-not-records_fit.false c.rows_fit.ensures
