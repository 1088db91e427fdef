-- A decimal digit at a place of the file. Assumes nothing.
use Rattle.std.specs.Prelude.{ℕ, ◌-◌, List, true, false, get_or, Option, Some, None}
use Rattle.digits.specs.Digits.{within}

-- its value
unfoldable pub figure_at : List ℕ → ℕ → Option ℕ
figure_at s i = elim (within 48 57 (get_or s i 0)) [ true ↦ Some (get_or s i 0 - 48) | false ↦ None ]
