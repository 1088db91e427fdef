-- The tables and the totals that travel together, as the rows that are lent and as a mesh. Assumes nothing.
use Rattle.std.specs.Prelude.{ℕ, List, []}
use Rattle.layout.specs.Rows.{Lent}
use Rattle.layout.specs.Says.{Mesh}
use Rattle.writer.specs.declared.tables.Tables.{Tables}
use Rattle.writer.specs.declared.tables.Totals.{Totals}
use Rattle.writer.specs.Writer.{lent, flat_mesh}

-- the rows; the records are not asked
abbrev pub held : Tables → Lent
held t = lent t.mantissas.now t.exponents.now t.faces.now t.cells.now []

-- with the zone list as words
abbrev pub mesh_with : Totals → Tables → List ℕ → Mesh
mesh_with n t words = flat_mesh n.dimension n.nodes n.faces n.cells t.mantissas.now t.exponents.now t.faces.now t.cells.now words
