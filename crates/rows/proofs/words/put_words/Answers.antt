use mathlib.Core.Path.{refl}
use Rattle.rows.proofs.Wording.{wording_start, two_many, wording_two, wording_more, wording_end}
use native.Mathlib.Omega.{arith}
use Rattle.rows.proofs.words.put_words.Goals as goal

pub loop-left-init : goal.loop-left-init
loop-left-init c = (refl, wording_start _ _ _ _ _)

pub overflow_sub-left : goal.overflow_sub-left
overflow_sub-left c = two_many _ _ _ _ _ c.in-Some.is c.two_left.ensures

pub loop-left-smaller-in-Some : goal.loop-left-smaller-in-Some
loop-left-smaller-in-Some c = let h = two_many _ _ _ _ _ c.in-Some.is c.two_left.ensures in omega (arith, h)

pub loop-left-preserved-in-Some : goal.loop-left-preserved-in-Some
loop-left-preserved-in-Some c =
    (omega (arith, c.loop-left.invariant.0, two_many _ _ _ _ _ c.in-Some.is c.two_left.ensures), wording_two _ _ _ _ _ c.in-Some.is c.two_left.ensures _ _ _ _ _ _ _ _ c.loop-left.invariant.1 c.store.ensures c.store-in-Some.ensures)

pub loop-left-preserved : goal.loop-left-preserved
loop-left-preserved c =
    (omega (arith, c.loop-left.invariant.0, c.loop-left-test.true), wording_more _ _ _ _ _ _ _ _ _ c.loop-left.invariant.1 _ _ _ _ (omega (arith, c.loop-left-test.true)) refl c.put_word-c.ensures)

pub returns : goal.returns
returns c = wording_end _ _ _ _ _ _ _ _ _ c.loop-left.invariant.1 c.loop-left-test.false
