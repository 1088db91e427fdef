use Prim.Native.Nat.{◌+◌, ◌-◌, ◌*◌}
use Rattle.digits.specs.Couples.{nibbles_of}
use Rattle.digits.proofs.Coupling.{couple_none, couple_long, couple_single, couple_both, size_is}
use native.Mathlib.Omega.{arith}
use Rattle.digits.proofs.couple.couple_of.Goals as goal

-- src/couple.rt:47:9
pub returns-then-gap-lt1 : goal.returns-then-gap-lt1
returns-then-gap-lt1 c = couple_none (nibbles_of c.args.x) c.args.gap c.args.end c.if-gap-lt1.true

-- src/couple.rt:50:9
pub returns-then-end-gt7 : goal.returns-then-end-gt7
returns-then-end-gt7 c = couple_long (nibbles_of c.args.x) c.args.gap c.args.end (omega (arith, c.if-gap-lt1.false)) c.if-end-gt7.true

-- src/couple.rt:54:9
pub returns-then-end-from : goal.returns-then-end-from
returns-then-end-from c =
    couple_single (nibbles_of c.args.x) c.args.gap c.args.end (omega (arith, c.if-gap-lt1.false)) (omega (arith, c.if-end-gt7.false)) c.if-end-from.true

-- src/couple.rt:42:1
pub returns : goal.returns
returns c =
    couple_both (nibbles_of c.args.x) c.args.gap c.args.end (omega (arith, c.if-gap-lt1.false)) (omega (arith, c.if-end-gt7.false)) (omega (arith, c.if-end-from.false)) _ _ c.nibbles-all.ensures (size_is (4 * (c.args.end - (c.args.gap + 1))) (omega (arith, c.if-end-gt7.false)))
