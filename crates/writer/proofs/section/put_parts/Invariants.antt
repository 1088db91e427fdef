use Rattle.std.proofs.Common.{map, drop}
use Rattle.texts.specs.Writes.{Each}
use Rattle.texts.specs.Write.{zone_in, records_in}
use Rattle.putting.proofs.Laying.{Left}
use Rattle.writer.specs.inner.Tables.{held}
use Rattle.writer.specs.inner.Sections.{parts_bytes, Puttable}
use Rattle.writer.proofs.section.put_parts.Given as goal

abbrev pub invariant-loop-row : goal.invariant-loop-row
invariant-loop-row l =
    record {
      laying : Left l.initial.out l.at (parts_bytes l.d (held l.tables) (records_in l.zones)) l.out l.c (parts_bytes l.d (held l.tables) (map zone_in (drop l.row-index l.rows)));
      puttable : Each (Puttable (held l.tables)) (map zone_in (drop l.row-index l.rows));
    }
