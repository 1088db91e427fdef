-- Records as the code judges them: those before are the ones that are kept. Assumes nothing.
use Rattle.std.specs.Prelude.{ℕ, List, [], Bool, false, ◌&&◌}
use Rattle.mesh.specs.declared.Zone.{Zone}
use Rattle.layout.specs.Items as Items
use Rattle.layout.specs.State.{tiled}
use Rattle.layout.specs.Says.{Mesh}
use Rattle.kept.specs.Kept.{Listed, kept_by_lists}
use Rattle.texts.specs.Tabled.{by_kind}
use Rattle.texts.specs.Judged.{record_by}
use Rattle.texts.specs.Write.{mesh_of, records_in}
use Rattle.writer.specs.declared.tables.Totals.{Totals}

-- a mesh of which only dimension, totals and records are asked
abbrev pub records_of : Totals → List ℕ → Mesh
records_of t words =
    mesh_of t.dimension t.nodes t.faces t.cells (record { mantissas = []; exponents = []; faces = []; cells = []; zones = records_in words })

abbrev pub total_in : Totals → Items.Kind → ℕ
total_in t Items.node = t.nodes
total_in t Items.cell = t.cells
total_in t Items.face = t.faces

module _ (kept : Listed) where
  -- place i of n
  abbrev pub kind_in : Items.Kind → ℕ → ℕ → ℕ → ℕ → Zone → Bool
  kind_in k d total n i z = record_by k d total (kept_by_lists kept (Items.id_of k) i) n i z

  unfoldable pub record_in : Totals → ℕ → ℕ → Zone → Bool
  record_in t n i z = by_kind z.section (λ k. kind_in k t.dimension (total_in t k) n i z) false

  unfoldable pub tiled_in : Totals → ℕ → Bool
  tiled_in t n =
      tiled (kept_by_lists kept 10 n) t.nodes && (tiled (kept_by_lists kept 12 n) t.cells && tiled (kept_by_lists kept 13 n) t.faces)
