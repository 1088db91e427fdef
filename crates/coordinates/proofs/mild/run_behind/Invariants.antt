use Rattle.coordinates.specs.Behind.{behind_of}
use Prim.Native.Nat.{◌-◌, ◌<◌, ◌^◌}
use lib.ListN.{length}
use mathlib.Core.Path.{◌≡◌}
use Rattle.coordinates.proofs.mild.run_behind.Given as goal

abbrev pub invariant-loop-step : goal.invariant-loop-step
invariant-loop-step l = (behind_of l.w l.i ≡ behind_of l.w l.at) × (l.i < 2 ^ 64)

abbrev pub decreases-loop-step : goal.decreases-loop-step
decreases-loop-step l = length l.w - l.i
