-- Closed cases of the functions that only our own crates call: the right answer, and what a wrong program would have answered there. Assumes nothing.
use Prim.Native.Nat.{ℕ}
use mathlib.Core.Path.{◌≡◌, refl}
use mathlib.Core.List.{List, [], ◌∷◌, ◌++◌}
use lib.Seq.{sets}
use Rattle.facts.specs.Bytes.{from_big_endian}
use Rattle.facts.specs.Text.{bytes}
use Rattle.records.specs.Record.{fault, extra_bytes}
use Rattle.lines.specs.Writing.{figures, line}
use Rattle.lines.specs.Listed.{record_line, record_lines, fault_lines}

abbrev lent : List ℕ
lent = bytes "................"

-- `put_line`: the last two numbers exchanged
put_line :
    (sets lent 0 (line (bytes "clean") (8 ∷ 12 ∷ 5 ∷ [])) ≡ bytes "clean 8 12 5\n...")
    × (sets lent 0 (line (bytes "clean") (8 ∷ 5 ∷ 12 ∷ [])) ≡ bytes "clean 8 5 12\n...")
unfolding figures
put_line = (refl, refl)

-- `put_total`: the index in the place of the count
put_total :
    (sets lent 0 (fault_lines 1 (9 ∷ 0 ∷ 2 ∷ 0 ∷ 0 ∷ 4 ∷ [])) ≡ bytes "faults 1\n9 2 4\n.")
    × (sets lent 0 (line (bytes "faults") (1 ∷ []) ++ record_line (fault 9 2 2)) ≡ bytes "faults 1\n9 2 2\n.")
unfolding from_big_endian extra_bytes figures record_lines
put_total = (refl, refl)
