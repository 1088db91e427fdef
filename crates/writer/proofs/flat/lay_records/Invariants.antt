-- The first i records are laid. Assumes nothing.
use Rattle.std.proofs.Common.{◌≡◌, ◌*◌, take}
use Rattle.writer.specs.inner.Flat.{flat_of}
use Rattle.writer.proofs.flat.lay_records.Given as goal

abbrev pub invariant-loop-i : goal.invariant-loop-i
invariant-loop-i l = take (6 * l.i) l.flat ≡ flat_of (take l.i l.zones)
