-- `digits_from` reads all digits from a place on. Its loop keeps the state fair, and what is left behind it as what there was. Assumes nothing.
use mathlib.Core.Path.{ap, ◌∙◌}
use native.Mathlib.Omega.{arith}
use Rattle.digits.specs.Digits.{digit_of}
use Rattle.coordinates.proofs.Scanning.{scan_start, scan_next, rest_more, rest_end, rest_at, scan_past, scan_stop, scan_more}
use Rattle.coordinates.proofs.scan.digits_from.Goals as goal

pub loop-b-init : goal.loop-b-init
loop-b-init c = let s = scan_start _ _ c.requires in (s.0, s.1, omega arith)

-- the word is at its end
pub returns : goal.returns
returns c =
    let a = c.args in
    let i = c.loop-b.invariant in
    scan_past a.w.now a.from c.loop-b.x i.0 i.1 (rest_end _ _ _ _ i.2 c.requires.within c.loop-b-test.false)

-- a byte that is no digit
pub returns-then-d-ge10 : goal.returns-then-d-ge10
returns-then-d-ge10 c =
    let a = c.args in
    let i = c.loop-b.invariant in
    scan_stop a.w.now a.from c.loop-b.x i.0 i.1 _ (rest_more _ _ _ _ i.2 c.loop-b-test.true)
    (c.digit_of-d.ensures ∙ ap digit_of (rest_at _ _ _ _ i.2)) c.if-d-ge10.true

pub loop-b-preserved : goal.loop-b-preserved
loop-b-preserved c =
    let a = c.args in
    let i = c.loop-b.invariant in
    let m = scan_more a.w.now a.from c.loop-b.x i.0 i.1 _ (rest_more _ _ _ _ i.2 c.loop-b-test.true)
    (c.digit_of-d.ensures ∙ ap digit_of (rest_at _ _ _ _ i.2)) c.if-d-ge10.false _ c.grow-x.ensures in
    (m.0, m.1, scan_next _ _ _ _ _ c.grow-x.ensures i.2)
