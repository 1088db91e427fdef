use Prim.Native.Nat.{◌≤◌, ◌<◌, ◌^◌}
use mathlib.Core.Path.{◌≡◌}
use lib.ListN.{length, drop}
use Rattle.digits.specs.Digits.{digits_in}
use Rattle.numbers.proofs.whole.whole_of.Given as goal

abbrev pub invariant-loop-b : goal.invariant-loop-b
invariant-loop-b l = (l.b-index ≤ length l.w) × (l.v < l.base ^ l.b-index) × (digits_in l.base l.v l.b-index (drop l.b-index l.w) ≡ digits_in l.base 0 0 l.w)
