use mathlib.Core.Path.{◌∙◌}
use native.Mathlib.Omega.{arith}
use Rattle.finds.proofs.Passing.{run_passes}
use Rattle.finds.proofs.Eights.{pass_further, pass_here}
use Rattle.finds.proofs.runs.run_from.Goals as goal

-- fewer than eight are left
pub returns-then-rest-lt8 : goal.returns-then-rest-lt8
returns-then-rest-lt8 g c = λ k show. (c.loop-i.invariant k show, omega arith)

pub loop-i-preserved : goal.loop-i-preserved
loop-i-preserved g c = λ k show.
    pass_further (run_passes k) show c.args.s.now c.loop-i.i c.bytes_at-x.result c.shown-here.result c.bytes_at-x.ensures c.shown-here.ensures c.loop-i-test.true c.if-here-ne0.false (omega arith)
    ∙ c.loop-i.invariant k show

-- one of the eight
pub returns-then-here-ne0 : goal.returns-then-here-ne0
returns-then-here-ne0 g c = λ k show.
    c.place.ensures
    ∙ (pass_here (run_passes k) show c.args.s.now c.loop-i.i c.bytes_at-x.result c.shown-here.result c.bytes_at-x.ensures c.shown-here.ensures c.loop-i-test.true c.if-here-ne0.true).0
    ∙ c.loop-i.invariant k show

pub returns : goal.returns
returns g c = λ k show. (c.loop-i.invariant k show, omega arith)
