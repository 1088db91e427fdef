-- [01:The report program]. What is printed of a list's records. To be believed: all of this file. Assumes nothing.
use Rattle.std.specs.Prelude.{ℕ, zero, suc, List, [], ◌∷◌, ◌++◌, true, false, eqb, length, drop}
use Rattle.facts.specs.Text.{bytes}
use Rattle.records.specs.declared.Fault.{Fault}
use Rattle.records.specs.Record.{narrow, extra_bytes, size_of, read_back}
use Rattle.lines.specs.Writing.{decimal, line}

-- "a line for each listed record: kind, then its body's numbers in decimal"
abbrev pub extras : Fault → List ℕ
extras f = elim (eqb (extra_bytes narrow f.kind) 0) [ true ↦ [] | false ↦ f.extra ∷ [] ]

abbrev pub record_line : Fault → List ℕ
record_line f = line (decimal f.kind) (f.index ∷ extras f)

-- a line for each fault
abbrev pub faults_printed : List Fault → List ℕ
faults_printed [] = []
faults_printed (f ∷ fs) = record_line f ++ faults_printed fs

-- the lines of the records that stand in a list's bytes, n at most; `lines_of` shows that they are those of the faults that were listed
unfoldable pub record_lines : ℕ → List ℕ → List ℕ
record_lines zero list = []
record_lines (suc n) [] = []
record_lines (suc n) (b ∷ list) =
    record_line (read_back narrow (b ∷ list)) ++ record_lines n (drop (size_of narrow (read_back narrow (b ∷ list)).kind) (b ∷ list))

abbrev pub fault_lines : ℕ → List ℕ → List ℕ
fault_lines total list = line (bytes "faults") (total ∷ []) ++ record_lines (length list) list
