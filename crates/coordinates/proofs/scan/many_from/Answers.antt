use Rattle.coordinates.proofs.Eights.{found, roomy, many_stopped, many_more, many_less, many_on}
use Rattle.coordinates.proofs.Scanning.{scan_start}
use native.Mathlib.Omega.{arith}
use Rattle.coordinates.proofs.scan.many_from.Goals as goal

-- src/scan.rt:178:5
pub loop-x-init : goal.loop-x-init
loop-x-init c = scan_start _ _ c.requires

-- src/scan.rt:184:13
pub join-x-requires : goal.join-x-requires
join-x-requires c = roomy _ _ _ (found _ _ _ _ c.bytes_at-bytes.ensures c.group_of-g.ensures) c.loop-x.invariant.0 c.loop-x-test.true

-- src/scan.rt:178:5
pub loop-x-smaller : goal.loop-x-smaller
loop-x-smaller c =
    many_less _ _ _ (found _ _ _ _ c.bytes_at-bytes.ensures c.group_of-g.ensures) c.loop-x.invariant.0 c.loop-x-test.true _ c.loop-x.invariant.1 _ c.join-x.ensures (omega (arith, c.if-n-eq8.true))

-- src/scan.rt:178:5
pub loop-x-preserved : goal.loop-x-preserved
loop-x-preserved c =
    many_more _ _ _ (found _ _ _ _ c.bytes_at-bytes.ensures c.group_of-g.ensures) c.loop-x.invariant.0 c.loop-x-test.true _ c.loop-x.invariant.1 _ c.join-x.ensures

-- src/scan.rt:186:13
pub join-requires : goal.join-requires
join-requires c = roomy _ _ _ (found _ _ _ _ c.bytes_at-bytes.ensures c.group_of-g.ensures) c.loop-x.invariant.0 c.loop-x-test.true

-- src/scan.rt:186:13
pub returns-else-n-eq8 : goal.returns-else-n-eq8
returns-else-n-eq8 c =
    let f = found _ _ _ _ c.bytes_at-bytes.ensures c.group_of-g.ensures in many_stopped _ _ _ f c.loop-x.invariant.0 c.loop-x-test.true _ c.loop-x.invariant.1 _ c.join.ensures (omega (arith, f.few, c.if-n-eq8.false))

-- src/scan.rt:189:5
pub digits_from-requires : goal.digits_from-requires
digits_from-requires c = c.loop-x.invariant.0

-- src/scan.rt:173:1
pub returns : goal.returns
returns c = many_on _ _ _ _ c.loop-x.invariant.1 c.digits_from.ensures
