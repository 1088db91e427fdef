-- [01:The audit], the order of faults. To be believed: all of this file. Assumes nothing.
use Rattle.std.specs.Prelude.{ℕ, ◌<◌, ◌≡◌, true, false, ltb}
use mathlib.Core.List.{List, [], ◌∷◌, Memᴰ}
use Rattle.records.specs.declared.Fault.{Fault}

-- kinds 1 to 7 are faults of faces, 8 and 9 of cells
abbrev pub stage_of : ℕ → ℕ
stage_of kind = elim (ltb kind 8) [ true ↦ 0 | false ↦ 1 ]

-- "Order: faces rising, in a face kinds rising, then position or side; then cells rising, kinds rising."
pub data Before (x y : Fault) : Type 0 where
  stage : stage_of x.kind < stage_of y.kind → Before x y
  index : stage_of x.kind ≡ stage_of y.kind → x.index < y.index → Before x y
  kind : stage_of x.kind ≡ stage_of y.kind → x.index ≡ y.index → x.kind < y.kind → Before x y
  extra : x.kind ≡ y.kind → x.index ≡ y.index → x.extra < y.extra → Before x y

-- each stands before all that follow it
pub data Sorted : List Fault → Type 0 where
  none : Sorted []
  more : {x : Fault} {l : List Fault} → ((y : Fault) → Memᴰ y l → Before x y) → Sorted l → Sorted (x ∷ l)
