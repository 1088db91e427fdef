-- [01:The report program]. What is printed of a text that is not over-long. To be believed: all of this file. Assumes nothing.
use Rattle.std.specs.Prelude.{ℕ, List, [], ◌∷◌, true, false, eqb, pos, take, replicate, Ok, Err}
use Rattle.facts.specs.Text.{bytes}
use Rattle.mesh.specs.Rows.{places}
use Rattle.layout.specs.Replies.{number_of, Reply}
use Rattle.layout.specs.Rows.{Lent, no_zone}
use Rattle.layout.specs.Read.{read_of}
use Rattle.audit.specs.Audit.{tables, Out, audit_of}
use Rattle.lines.specs.Writing.{line}
use Rattle.lines.specs.Listed.{fault_lines}

-- "with room for 1,024 nodes, faces and cells, 64 zones and a 4,096-byte list"
abbrev pub lent : Lent
lent =
    record {
      mantissas = replicate 3072 (pos 0);
      exponents = replicate 3072 (pos 0);
      faces = replicate 8192 0;
      cells = replicate 2048 0;
      zones = replicate 64 no_zone;
    }

-- "No faults prints `clean`, nodes, faces, cells. Else `faults` and the total, then a line for each listed record"
abbrev pub audited : Out → ℕ → ℕ → ℕ → List ℕ
audited o nodes faces cells =
    elim (eqb o.answer.total 0) [
      | true ↦ line (bytes "clean") (nodes ∷ faces ∷ cells ∷ [])
      | false ↦ fault_lines o.answer.total (take o.answer.bytes o.list)
    ]

-- "A refusal prints `refused`, number, section, offset."
abbrev pub reported : Reply → Lent → List ℕ
reported (Err b) held = line (bytes "refused") (number_of b.why ∷ b.section ∷ b.offset ∷ [])
reported (Ok a) held = audited (audit_of places (tables a.dim a.nodes a.faces a.cells held.faces held.cells) (replicate 1024 0) (replicate 4096 0)) a.nodes a.faces a.cells

unfoldable pub report_of : List ℕ → List ℕ
report_of s = reported (read_of s lent).reply (read_of s lent).held
