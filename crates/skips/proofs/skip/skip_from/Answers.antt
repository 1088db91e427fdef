use lib.Dec.{lit<}
use mathlib.Core.Path.{refl}
use Rattle.tokens.specs.declared.Token.{Token}
use Rattle.tokens.proofs.Listed.{moved}
use Rattle.tokens.proofs.Marked.{mark_left, mark_right, mark_end, mark_text, mark_cut}
use Rattle.skips.proofs.Stepping.{mark_ahead, skip_on, skip_open, skip_deep, skip_last, skip_close, skip_text, skip_end, skip_cut}
use native.Mathlib.Omega.{arith}
use Rattle.skips.proofs.skip.skip_from.Goals as goal

-- src/skip.rt:28:5
pub loop-at-init : goal.loop-at-init
loop-at-init c = record { from = omega arith; deep = lit< tt; same = refl }

-- src/skip.rt:31:13
pub returns-then-size-m : goal.returns-then-size-m
returns-then-size-m c = skip_end _ _ _ _ (skip_on _ _ _ _ _ c.loop-at.invariant c.mark_from-m.ensures) _ (mark_end _ _ c.if-size-m.true) refl

-- src/skip.rt:36:26
pub overflow_add-deeper : goal.overflow_add-deeper
overflow_add-deeper c = omega (arith, c.loop-at.invariant.deep)

-- src/skip.rt:38:17
pub returns-then-deeper-ge-DEPTH : goal.returns-then-deeper-ge-DEPTH
returns-then-deeper-ge-DEPTH c =
    skip_deep _ _ _ _ (skip_on _ _ _ _ _ c.loop-at.invariant c.mark_from-m.ensures) _ (mark_left _ _ (omega (arith, c.if-size-m.false)) c.if-b-eq40.true) refl c.if-deeper-ge-DEPTH.true

-- src/skip.rt:28:5
pub loop-at-smaller-then-b-eq40 : goal.loop-at-smaller-then-b-eq40
loop-at-smaller-then-b-eq40 c = omega (arith, c.if-size-m.false, mark_ahead _ _ _ c.mark_from-m.ensures)

-- src/skip.rt:28:5
pub loop-at-preserved-then-b-eq40 : goal.loop-at-preserved-then-b-eq40
loop-at-preserved-then-b-eq40 c =
    skip_open _ _ _ _ (skip_on _ _ _ _ _ c.loop-at.invariant c.mark_from-m.ensures) _ (mark_left _ _ (omega (arith, c.if-size-m.false)) c.if-b-eq40.true) refl c.if-deeper-ge-DEPTH.false

-- src/skip.rt:46:17
pub returns-then-d-eq0 : goal.returns-then-d-eq0
returns-then-d-eq0 c =
    skip_last _ _ _ _ (skip_on _ _ _ _ _ c.loop-at.invariant c.mark_from-m.ensures) _ (mark_right _ _ (omega (arith, c.if-size-m.false)) c.if-b-eq41.true) refl c.if-d-eq0.true

-- src/skip.rt:28:5
pub loop-at-smaller-then-b-eq41 : goal.loop-at-smaller-then-b-eq41
loop-at-smaller-then-b-eq41 c = omega (arith, c.if-size-m.false, mark_ahead _ _ _ c.mark_from-m.ensures)

-- src/skip.rt:28:5
pub loop-at-preserved-then-b-eq41 : goal.loop-at-preserved-then-b-eq41
loop-at-preserved-then-b-eq41 c =
    skip_close _ _ _ _ (skip_on _ _ _ _ _ c.loop-at.invariant c.mark_from-m.ensures) _ (mark_right _ _ (omega (arith, c.if-size-m.false)) c.if-b-eq41.true) refl c.if-d-eq0.false

-- src/skip.rt:54:13
pub returns-then-size-end : goal.returns-then-size-end
returns-then-size-end c =
    skip_cut _ _ _ _ (skip_on _ _ _ _ _ c.loop-at.invariant c.mark_from-m.ensures) _ (mark_cut _ _ _ c.mark_from-m.ensures (omega (arith, c.if-size-m.false)) c.if-b-eq40.false c.if-b-eq41.false _ c.quote_from-end.ensures c.if-size-end.true) refl

-- src/skip.rt:28:5
pub loop-at-smaller : goal.loop-at-smaller
loop-at-smaller c =
    let v = moved _ _ _ Token.Text (mark_text _ _ _ c.mark_from-m.ensures (omega (arith, c.if-size-m.false)) c.if-b-eq40.false c.if-b-eq41.false _ c.quote_from-end.ensures (omega (arith, c.if-size-end.false))) refl tt in omega (arith, mark_ahead _ _ _ c.mark_from-m.ensures)

-- src/skip.rt:28:5
pub loop-at-preserved : goal.loop-at-preserved
loop-at-preserved c =
    skip_text _ _ _ _ (skip_on _ _ _ _ _ c.loop-at.invariant c.mark_from-m.ensures) _ (mark_text _ _ _ c.mark_from-m.ensures (omega (arith, c.if-size-m.false)) c.if-b-eq40.false c.if-b-eq41.false _ c.quote_from-end.ensures (omega (arith, c.if-size-end.false))) refl
