use Rattle.std.specs.Prelude.{◌≡◌}
use mathlib.Core.Path.{refl}
use lib.Seq.{sets}
use Rattle.layout.specs.Rows.{cell_table, cell_rows, joined}
use Rattle.layout.specs.Items.{cell}
use Rattle.filling.proofs.Passing.{passes_filled, rows_put, then_any, cell_node}
use Rattle.filling.proofs.parts.cells_into.Goals as goal

pub returns : goal.returns
returns c =
    let a = c.args in let t = c.top_at-top.result in λ d. passes_filled _ _ _ _ cell t c.top_at-top.ensures _ _ _ (λ h b. _ ≡ sets a.cells.now _ (joined (cell_rows h b))) _ c.count_of-n.ensures c.put_record.ensures (λ h f w. then_any _ d _ cell h.fifth _ _ cell_node (c.put_cells.ensures.says h f w)) (λ h b w y. rows_put cell_table h b t.value _ _ a.cells.now _ w c.rows_before-before.ensures refl y)
