use mathlib.Core.Path.{◌∙◌, ap}
use Rattle.again.proofs.Many.{repeat_more, repeat_end}
use Rattle.again.proofs.Puts.{sets_behind}
use lib.Seq.{sets}
use Rattle.rows.proofs.Wording.{none_set, zeros_are}
use native.Mathlib.Omega.{arith}
use Rattle.rows.proofs.words.put_zeros.Goals as goal

pub loop-i-preserved : goal.loop-i-preserved
loop-i-preserved c = repeat_more sets none_set sets_behind _ _ _ _ _ _ _ c.loop-i.invariant _ _ _ (omega (arith, c.loop-i-test.true)) (omega arith) c.store.ensures

pub returns : goal.returns
returns c =
    repeat_end sets none_set sets_behind _ _ _ _ _ _ _ c.loop-i.invariant (omega (arith, c.loop-i-test.false)) ∙ ap (sets c.args.words.now c.args.k) (zeros_are c.args.n)
