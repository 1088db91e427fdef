use Prim.Native.Nat.{◌+◌, ◌-◌}
use native.Mathlib.Omega.{arith}
use mathlib.Core.Path.{◌≡◌, subst}
use Rattle.std.proofs.lemmas.Result.{err_from_is_err_and}
use Rattle.bodies.proofs.Forgotten.{Going, going_end, going_stop, going_more}
use Rattle.bodies.proofs.words.each_past.Goals as goal

pub returns-in_err-c : goal.returns-in_err-c
returns-in_err-c g c =
    let p = err_from_is_err_and c.from_residual.result c.from_residual.ensures.1 in
    let a = c.args in
    rw (p.1, p.2) (going_stop a.s.now g.unit a.at a.n _ _ c.loop.invariant (omega (arith, c.loop-test.true)) _ (c.requires.1.1 _ _ c.one.ensures) _ c.in_err-c.was)

pub loop-preserved : goal.loop-preserved
loop-preserved g c =
    let a = c.args in
    let z : a.n - c.loop.counter - 1 ≡ a.n - (c.loop.counter + 1) = omega arith in
    subst (λ k. Going a.s.now g.unit a.at a.n c.in_ok-c.c k) z
    (going_more a.s.now g.unit a.at a.n _ _ c.loop.invariant (omega (arith, c.loop-test.true)) _ (c.requires.1.1 _ _ c.one.ensures) _ c.in_ok-c.was)

pub returns : goal.returns
returns g c =
    let a = c.args in
    going_end a.s.now g.unit a.at a.n _ _ c.loop.invariant (omega (arith, c.loop-test.false))
