-- [01:Both sides of each line], the cases marked P, in one table. To be believed: all of this file. Assumes nothing.
use Rattle.decimals.specs.Coordinate.{decimal}
use Rattle.std.specs.Prelude.{ℕ, List, [], ◌∷◌, pos, negsuc, replicate, Option, None}
use Prim.Native.String.{String}
use Rattle.facts.specs.Text.{bytes}
use Rattle.decimals.specs.declared.decimal.Decimal.{Decimal}
use Rattle.decimals.specs.Coordinate.{coordinate_of}
use Rattle.mesh.specs.Rows.{places}
use Rattle.layout.specs.Rows.{Lent, no_zone}
use Rattle.layout.specs.Replies.{Shown, shown}
use Rattle.layout.specs.Read.{Outcome, outcome, read_of}
use Rattle.audit.specs.Audit.{tables, Out, out, values, audit_of}

pub data Case : Type 0 where
  -- a file that is refused, with number, section and offset
  file : String → ℕ → ℕ → ℕ → Case
  -- a coordinate word, and what is kept of it
  coordinate : String → Option Decimal → Case
  -- a file, the room of the list, and what the audit of its tables answers and leaves
  audited : String → ℕ → Out → Case

-- what a case comes to
pub data Answer : Type 0 where
  read : Outcome → Answer
  kept : Option Decimal → Answer
  listed : Out → Answer

-- room for four nodes, three faces, two cells, three zones, filled with nines
abbrev pub lent : Lent
lent = record { mantissas = replicate 12 (pos 9); exponents = replicate 12 (pos 9); faces = replicate 24 9; cells = replicate 4 9; zones = replicate 3 no_zone }

-- the audit of what reading answered and left in the tables; counts begin as 9, 9 and the list as sevens
abbrev pub audit_read : Shown → Lent → ℕ → Out
audit_read s l room =
    audit_of places (tables s.dimension s.nodes s.faces s.cells l.faces l.cells) (9 ∷ 9 ∷ []) (replicate room 7)

-- by the definitions that the contracts of `reader::read`, `coordinates::coordinate` and `audit::audit` use
abbrev pub run : Case → Answer
run (file t n k o) = read (outcome (read_of (bytes t) lent))
run (coordinate t d) = kept (coordinate_of (bytes t))
run (audited t room o) = listed (audit_read (shown (read_of (bytes t) lent).reply) (read_of (bytes t) lent).held room)

abbrev pub wanted : Case → Answer
wanted (file t n k o) =
    read (record { shown = record { number = n; section = k; offset = o; dimension = 0; nodes = 0; faces = 0; cells = 0; zones = 0 }; held = lent })
wanted (coordinate t d) = kept d
wanted (audited t room o) = listed o

-- [01:The report program], its input
abbrev pub faulty : String
faulty = "(2 2)(10 (0 1 3 0 2))(12 (0 1 1 0))(13 (0 1 3 0))\n(10 (1 1 3 1 2)(0 0 1 0 0 1))(12 (2 1 1 1 1))\n(13 (3 1 3 3 2)(1 2 0 1 2 3 0 1 3 4 0 2))"

abbrev pub table : List Case
table =
    -- "P empty file: 13, section 0, offset 0. P `x`: 2, 0, 0."
    file "" 13 0 0
    ∷ file "x" 2 0 0
    -- "P `(2 2`: 2, 1, 4. P `(2 4)`: 9, 1, 3. P `(2 2)(2 3)`: 10, 2, 8. P `(2010`: 4, 1, 1."
    ∷ file "(2 2" 2 1 4
    ∷ file "(2 4)" 9 1 3
    ∷ file "(2 2)(2 3)" 10 2 8
    ∷ file "(2010" 4 1 1
    -- "P `1.50000000e-01` is 15, −2."
    ∷ coordinate "1.50000000e-01" (decimal (pos 15) (negsuc 1))
    -- "P `-0.0` is 0, 0."
    ∷ coordinate "-0.0" (decimal (pos 0) (pos 0))
    -- "P `10e400` is Number; `1e400` is 1, 400; `0e999` is 0, 0.": no number, and in a file refusal 3
    ∷ coordinate "10e400" None
    ∷ file "(10 (0 1 1 0 2))(10 (1 1 1 1)(10e400 0))" 3 2 30
    ∷ coordinate "1e400" (decimal (pos 1) (pos 400))
    ∷ coordinate "0e999" (decimal (pos 0) (pos 0))
    -- "P the faulty input's list is 14 bytes"
    ∷ audited faulty 14 (out (values 0 3 14) (2 ∷ 9 ∷ []) (2 ∷ 0 ∷ 3 ∷ 1 ∷ 4 ∷ 0 ∷ 3 ∷ 1 ∷ 9 ∷ 0 ∷ 1 ∷ 0 ∷ 0 ∷ 2 ∷ []))
    -- "P with room 13, 8 are written"
    ∷ audited faulty 13 (out (values 0 3 8) (2 ∷ 9 ∷ []) (2 ∷ 0 ∷ 3 ∷ 1 ∷ 4 ∷ 0 ∷ 3 ∷ 1 ∷ 7 ∷ 7 ∷ 7 ∷ 7 ∷ 7 ∷ []))
    -- "P room 7, 4; total 3 each time."
    ∷ audited faulty 7 (out (values 0 3 4) (2 ∷ 9 ∷ []) (2 ∷ 0 ∷ 3 ∷ 1 ∷ 7 ∷ 7 ∷ 7 ∷ []))
    ∷ []
