use Rattle.rows.proofs.Rowed.{filing_more, filing_end, row_room, next_place}
use native.Mathlib.Omega.{arith}
use Rattle.rows.proofs.body.put_all.Goals as goal

pub put_row-c-requires : goal.put_row-c-requires
put_row-c-requires c = omega (arith, c.loop-row.invariant.0, c.requires, row_room c.args.form _ _ _ c.width_of-width.ensures c.loop-row-test.true c.ranges.n.fits)

pub overflow_add-i : goal.overflow_add-i
overflow_add-i c = omega (arith, c.loop-row.invariant.0, c.requires, row_room c.args.form _ _ _ c.width_of-width.ensures c.loop-row-test.true c.ranges.n.fits)

pub loop-row-preserved : goal.loop-row-preserved
loop-row-preserved c =
    let a = c.args in
    let h = c.loop-row.invariant in
    (next_place _ _ _ _ h.0, filing_more _ a.form a.ztype _ _ _ _ _ _ _ _ h.1 _ _ _ c.width_of-width.ensures c.loop-row-test.true c.put_row-c.ensures)

pub returns : goal.returns
returns c = let a = c.args in filing_end _ a.form a.ztype _ _ _ _ _ _ _ _ c.loop-row.invariant.1 c.loop-row-test.false
