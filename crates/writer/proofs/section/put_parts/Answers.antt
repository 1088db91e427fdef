use Rattle.std.proofs.Common.{◌≡◌, ◌∙◌, ◌/◌, arith, sym, subst, ap, map, length, List}
use Rattle.mesh.specs.declared.Zone.{Zone}
use Rattle.texts.specs.Writes.{Each}
use Rattle.texts.specs.Write.{zone_in, records_in}
use Rattle.putting.proofs.Laying.{Left, left_start, left_end}
use Rattle.writer.specs.inner.Tables.{held}
use Rattle.writer.specs.inner.Sections.{parts_bytes, Puttable}
use Rattle.writer.proofs.Sections.{zones_rows, each_rest, parts_more, parts_none}
use Rattle.writer.proofs.section.put_parts.Goals as goal

pub loop-row-init : goal.loop-row-init
loop-row-init c =
    let a = c.args in
    let e : records_in a.zones.now ≡ map zone_in c.as_chunks.result.0.now = sym (zones_rows (length a.zones.now / 6) a.zones.now) ∙ ap (map zone_in) (sym c.as_chunks.ensures.front) in
    let whole = parts_bytes a.d (held a.tables) (records_in a.zones.now) in
    record {
      laying = subst (λ (zs : List Zone). Left a.out.now a.at whole a.out.now a.at (parts_bytes a.d (held a.tables) zs)) e (left_start whole (omega arith) (omega arith));
      puttable = subst (Each (Puttable (held a.tables))) e c.requires.1;
    }

pub loop-row-preserved : goal.loop-row-preserved
loop-row-preserved c =
    let a = c.args in
    let g = c.loop-row.invariant in
    record {
      laying = parts_more a.d (held a.tables) _ _ _ g.laying c.loop-row-test.true c.zone_of.ensures c.put_section-c.ensures;
      puttable = each_rest (Puttable (held a.tables)) _ _ c.loop-row-test.true g.puttable;
    }

pub returns : goal.returns
returns c = let a = c.args in left_end c.loop-row.invariant.laying (parts_none a.d (held a.tables) _ _ c.loop-row-test.false)
