-- Hexadecimal digits at the start of some bytes, whatever stands behind them. Assumes nothing.
use Rattle.std.specs.Prelude.{ℕ, List, true, false, leb, length}
use Rattle.digits.specs.declared.quick.Hexes.{Hexes}
use Rattle.digits.specs.Digits.{Digits, digits_in}

abbrev pub hexes_by : Digits → Hexes
hexes_by d = record { value = d.value; count = d.count }

-- of more than 8 bytes none are read
unfoldable pub hexes_of : List ℕ → Hexes
hexes_of w = elim (leb (length w) 8) [ true ↦ hexes_by (digits_in 16 0 0 w) | false ↦ record { value = 0; count = 0 } ]
