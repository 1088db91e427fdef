use lib.Bits.{bit_and, bit_xor}
use Prim.Native.Nat.{ℕ}
use mathlib.Core.Path.{ap₂}
use Rattle.finds.proofs.marks.marks.Goals as goal

-- src/marks.rt:17:1
pub returns : goal.returns
returns c = ap₂ (λ (p q : ℕ). bit_xor (bit_and (bit_and p q) 0x8080808080808080) 0x8080808080808080) c.unlike-texts.ensures c.unlike-rounds.ensures
