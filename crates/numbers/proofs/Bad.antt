-- A refused word goes wrong at one of its bytes, or at its end: callers add the place to the word's start. Assumes nothing.
use Prim.Native.Nat.{ℕ, ◌≤◌}
use native.Mathlib.Omega.{arith}
use mathlib.Core.List.{List}
use lib.ListN.{length}
use Rattle.numbers.specs.declared.sort.Sort.{Sort}
use Rattle.numbers.specs.Bad.{bad_at}

pub bad_at_within : (k : Sort) (w : List ℕ) → bad_at k w ≤ length w
unfolding bad_at
bad_at_within Sort.SectionId w = omega arith
bad_at_within Sort.Hexadecimal w = omega arith
bad_at_within Sort.Coordinate w = omega arith
