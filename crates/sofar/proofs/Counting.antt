-- The count of a range. Assumes nothing.
use Prim.Native.Nat.{ℕ, suc, ◌+◌, ◌-◌, ◌≤◌}
use native.Mathlib.Omega.{arith}
use mathlib.Core.Path.{◌≡◌, ◌∙◌}
use borrow.Author.Tests.{le-leb}
use Rattle.sofar.specs.Sofar.{count_for}

pub count_some : (f l : ℕ) → 1 ≤ f → f ≤ l → l - f + 1 ≡ count_for f l
count_some f l p q =
    let z : l - f + 1 ≡ suc l - f = omega arith in
    z ∙ rw (count_for, le-leb 1 f p, le-leb f l q)
