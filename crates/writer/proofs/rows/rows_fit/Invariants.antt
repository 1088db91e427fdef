use Rattle.std.proofs.Common.{◌≡◌, map, drop}
use Rattle.texts.specs.Writes.{Each}
use Rattle.texts.specs.Judged.{all_by, rows_fit}
use Rattle.texts.specs.Write.{zone_in, records_in}
use Rattle.writer.specs.inner.Tables.{held}
use Rattle.writer.specs.inner.Sections.{Ranged}
use Rattle.writer.proofs.rows.rows_fit.Given as goal

abbrev pub invariant-loop-row : goal.invariant-loop-row
invariant-loop-row l =
    record {
      ranged : Each (Ranged (held l.tables)) (map zone_in (drop l.row-index l.rows));
      same : all_by (rows_fit l.d (held l.tables)) (map zone_in (drop l.row-index l.rows)) ≡ all_by (rows_fit l.d (held l.tables)) (records_in l.zones);
    }
