use lib.Bits.{bit_and}
use Prim.Native.Nat.{◌-◌}
use Rattle.digits.proofs.Coupling.{couple_empty, couple_lone, couple_other, couple_found}
use lib.Count.{trailing_le}
use native.Mathlib.Omega.{arith}
use Rattle.digits.proofs.couple.couple_in.Goals as goal

-- src/couple.rt:80:9
pub returns-then-found-eq0 : goal.returns-then-found-eq0
returns-then-found-eq0 c = couple_empty _ _ c.ends-found.ensures c.if-found-eq0.true

-- src/couple.rt:86:9
pub returns-then-others-eq0 : goal.returns-then-others-eq0
returns-then-others-eq0 c = couple_lone _ _ c.ends-found.ensures c.if-others-eq0.true

-- src/couple.rt:94:9
pub couple_of-requires : goal.couple_of-requires
couple_of-requires c = let t = c.ends-found.result in (omega (arith, trailing_le 64 t), omega (arith, trailing_le 64 (bit_and t (t - 1))))

-- src/couple.rt:94:9
pub returns-then-exact-found : goal.returns-then-exact-found
returns-then-exact-found c = couple_found c.args.x _ c.ends-found.ensures c.if-found-eq0.false _ c.marks-exact.ensures c.if-exact-found.true _ c.couple_of.ensures

-- src/couple.rt:75:1
pub returns : goal.returns
returns c = couple_other _ _ c.ends-found.ensures c.if-found-eq0.false _ c.marks-exact.ensures c.if-exact-found.false
