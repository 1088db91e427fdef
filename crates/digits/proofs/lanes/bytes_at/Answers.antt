use Rattle.std.proofs.Common.{rules}
use Rattle.digits.proofs.Beside.{laned_none, laned_few, laned_chunk}
use native.Mathlib.Omega.{arith}
use Rattle.digits.proofs.lanes.bytes_at.Goals as goal

-- src/lanes.rt:22:9
pub returns-then-w-at : goal.returns-then-w-at
returns-then-w-at c = laned_few c.args.w.now c.args.at _ (omega (arith, c.if-w-at.true)) (laned_none c.args.w.now _ c.if-w-at.true)

-- src/lanes.rt:18:1
pub returns-in-Some : goal.returns-in-Some
returns-in-Some c = laned_chunk c.args.w.now c.args.at _ c.in-Some.eight.now (search rules) (λ i. omega (arith, c.type_inv.w i)) (search rules) c.from_le_bytes.ensures
