use lib.Bits.{bit_and, bit_xor}
use Prim.Native.Nat.{ℕ}
use mathlib.Core.Path.{ap}
use Rattle.finds.proofs.quotes.quotes.Goals as goal

-- src/quotes.rt:10:1
pub returns : goal.returns
returns c = ap (λ (u : ℕ). bit_xor (bit_and u 0x8080808080808080) 0x8080808080808080) c.unlike-others.ensures
