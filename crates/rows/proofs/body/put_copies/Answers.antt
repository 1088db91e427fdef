use Rattle.rows.proofs.Rowed.{two_put, same_put}
use Rattle.again.proofs.Many.{repeat_more, repeat_end}
use Rattle.again.proofs.Puts.{sets_behind}
use lib.Seq.{sets}
use Rattle.rows.proofs.Wording.{none_set}
use native.Mathlib.Omega.{arith}
use Rattle.rows.proofs.body.put_copies.Goals as goal

pub loop-j-preserved : goal.loop-j-preserved
loop-j-preserved c =
    let a = c.args in
    repeat_more sets none_set sets_behind _ _ _ _ _ _ _ c.loop-j.invariant _ _ _ (omega (arith, c.loop-j-test.true)) (omega arith) (two_put a.element a.ztype _ c.loop-j.rows _ c.store.ensures c.store-in-loop-j.ensures)

pub returns : goal.returns
returns c = same_put _ _ _ _ _ (repeat_end sets none_set sets_behind _ _ _ _ _ _ _ c.loop-j.invariant (omega (arith, c.loop-j-test.false)))
