use Rattle.digits.proofs.Coupling.{end_at}
use lib.Count.{trailing_le}
use native.Mathlib.Omega.{arith}
use Rattle.digits.proofs.couple.end_in.Goals as goal

-- src/couple.rt:41:5
pub overflow_cast-result : goal.overflow_cast-result
overflow_cast-result c = omega (arith, trailing_le 64 c.ends-found.result)

-- src/couple.rt:35:1
pub returns : goal.returns
returns c = end_at _ _ c.ends-found.ensures
