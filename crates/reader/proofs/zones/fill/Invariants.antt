-- The first i records are laid. Assumes nothing.
use Rattle.std.proofs.Common.{◌≡◌}
use Rattle.filling.specs.Zones.{filled}
use Rattle.reader.proofs.zones.fill.Given as goal

abbrev pub invariant-loop-i : goal.invariant-loop-i
invariant-loop-i l = l.zs ≡ filled l.flat l.i l.initial.zs
