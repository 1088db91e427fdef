use Rattle.std.proofs.Common.{◌≡◌, ◌∙◌, ◌/◌, sym, subst, ap, map, length, []}
use Rattle.texts.specs.Writes.{Each}
use Rattle.texts.specs.Judged.{all_by, rows_fit}
use Rattle.texts.specs.Write.{zone_in, records_in}
use Rattle.writer.specs.inner.Tables.{held}
use Rattle.writer.specs.inner.Sections.{Ranged}
use Rattle.writer.proofs.Sections.{zones_rows, each_rest}
use Rattle.writer.proofs.Reviewing.{reviewing_off, reviewing_more, reviewing_end}
use Rattle.writer.proofs.rows.rows_fit.Goals as goal

pub loop-row-init : goal.loop-row-init
loop-row-init c =
    let a = c.args in
    let e : records_in a.zones.now ≡ map zone_in c.as_chunks.result.0.now = sym (zones_rows (length a.zones.now / 6) a.zones.now) ∙ ap (map zone_in) (sym c.as_chunks.ensures.front) in
    record {
      ranged = subst (Each (Ranged (held a.tables))) e c.requires;
      same = ap (all_by (rows_fit a.d (held a.tables))) (sym e);
    }

pub returns-then-not-section_fits : goal.returns-then-not-section_fits
returns-then-not-section_fits c = reviewing_off _ _ _ _ c.loop-row.invariant.same c.loop-row-test.true c.zone_of.ensures c.section_fits.ensures c.if-not-section_fits.true

pub loop-row-preserved : goal.loop-row-preserved
loop-row-preserved c =
    let a = c.args in
    let g = c.loop-row.invariant in
    record {
      ranged = each_rest (Ranged (held a.tables)) _ _ c.loop-row-test.true g.ranged;
      same = reviewing_more _ _ _ _ g.same c.loop-row-test.true c.zone_of.ensures c.section_fits.ensures c.if-not-section_fits.false;
    }

pub returns : goal.returns
returns c = reviewing_end _ _ _ [] c.loop-row.invariant.same c.loop-row-test.false
