use Rattle.lines.proofs.Listing.{lining_start, lining_more, lining_end, extra_small}
use native.Mathlib.Omega.{arith}
use Rattle.lines.proofs.listed.put_faults.Goals as goal

-- src/listed.rt:76:5
pub loop-p-init : goal.loop-p-init
loop-p-init c = lining_start _ _ _ c.requires

-- src/listed.rt:77:13
pub fault_in-f-requires : goal.fault_in-f-requires
fault_in-f-requires c = omega (arith, c.loop-p-test.true, c.well_formed.1.1.0.1)

-- src/listed.rt:78:9
pub put_fault-c-requires : goal.put_fault-c-requires
put_fault-c-requires c = c.loop-p.invariant.place

-- src/listed.rt:80:13
pub overflow_add-p : goal.overflow_add-p
overflow_add-p c = omega (arith, c.loop-p-test.true, c.well_formed.1.1.0.1)

-- src/listed.rt:80:13
pub overflow_add-p-in-loop-p : goal.overflow_add-p-in-loop-p
overflow_add-p-in-loop-p c = omega (arith, c.loop-p-test.true, c.well_formed.1.1.0.1, extra_small _ _ c.extra_bytes-extra.ensures)

-- src/listed.rt:76:5
pub loop-p-smaller : goal.loop-p-smaller
loop-p-smaller c = omega (arith, c.loop-p-test.true)

-- src/listed.rt:76:5
pub loop-p-preserved : goal.loop-p-preserved
loop-p-preserved c = lining_more _ _ _ _ _ _ c.loop-p.invariant _ c.fault_in-f.ensures c.loop-p-test.true _ _ c.put_fault-c.ensures _ c.extra_bytes-extra.ensures

-- src/listed.rt:70:1
pub shape_of-out : goal.shape_of-out
shape_of-out c = c.loop-p.invariant.kept

-- src/listed.rt:70:1
pub returns : goal.returns
returns c = lining_end _ _ _ _ _ _ c.loop-p.invariant c.loop-p-test.false
