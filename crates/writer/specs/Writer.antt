-- [02:M-101]. The calls: what they are given, and the paper's number of each answer. To be believed: all of this file. Assumes nothing.
use Rattle.std.specs.Prelude.{ℕ, List, ℤ, Result, Ok, Err}
use Rattle.mesh.specs.declared.Zone.{Zone}
use Rattle.layout.specs.Rows.{Lent}
use Rattle.layout.specs.Says.{Mesh}
use Rattle.texts.specs.Write.{mesh_of, records_in, Values, values}
use Rattle.writer.specs.declared.answer.Refusal.{Refusal}

-- the table of refusal numbers
abbrev pub number_of : Refusal → ℕ
number_of Refusal.Unwritable = 18
number_of Refusal.TextRoom = 19

abbrev pub values_of : Result ℕ Refusal → Values
values_of (Ok bytes) = values 0 bytes
values_of (Err r) = values (number_of r) 0

abbrev pub lent : List ℤ → List ℤ → List ℕ → List ℕ → List Zone → Lent
lent mantissas exponents faces cells zones = record { mantissas = mantissas; exponents = exponents; faces = faces; cells = cells; zones = zones }

-- dimension, totals of nodes, faces and cells, the tables, and the zone list as words
abbrev pub flat_mesh : ℕ → ℕ → ℕ → ℕ → List ℤ → List ℤ → List ℕ → List ℕ → List ℕ → Mesh
flat_mesh d nodes faces cells mantissas exponents face_rows cell_rows words = mesh_of d nodes faces cells (lent mantissas exponents face_rows cell_rows (records_in words))
