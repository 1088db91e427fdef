-- One regular section more. Assumes nothing.
use Prim.Native.Nat.{ℕ, ◌+◌, ◌<◌}
use native.Mathlib.Numerals.{add-one}
use mathlib.Core.Path.{◌≡◌}
use borrow.Author.Tests.{lt-ltb}
use Rattle.sizes.specs.Sizes.{zones}
use Rattle.notes.specs.Noting.{more}

pub more_in : (z : ℕ) → z < zones → z + 1 ≡ more z
more_in z l = rw (more, lt-ltb z zones l, add-one)
