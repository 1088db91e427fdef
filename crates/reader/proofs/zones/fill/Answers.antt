-- `fill` lays one record more on each turn. Assumes nothing.
use Rattle.std.proofs.Common.{◌≤◌, refl, sym, ap, ◌∙◌, arith, set}
use Rattle.filling.specs.Zones.{filled}
use Rattle.reader.proofs.Filled.{filled_next}
use Rattle.reader.proofs.zones.fill.Goals as goal

pub loop-i-init : goal.loop-i-init
unfolding filled
loop-i-init c = refl

pub loop-i-preserved : goal.loop-i-preserved
loop-i-preserved c =
    ap (λ l. set l c.loop-i.i c.zone_at.result) c.loop-i.invariant
    ∙ ap (λ z. set (filled c.args.flat.now c.loop-i.i c.args.zs.now) c.loop-i.i z) c.zone_at.ensures
    ∙ sym (filled_next c.args.flat.now c.loop-i.i c.args.zs.now)
