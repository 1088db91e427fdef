use mathlib.Core.Path.{◌≡◌}
use Rattle.coordinates.specs.Behind.{behind_of}
use Rattle.coordinates.proofs.mild.digits_behind.Given as goal

abbrev pub invariant-loop-i : goal.invariant-loop-i
invariant-loop-i l = behind_of l.w l.i ≡ behind_of l.w l.at
