use Rattle.std.specs.Prelude.{◌≡◌}
use mathlib.Core.Path.{refl}
use lib.Seq.{sets}
use Rattle.layout.specs.Rows.{face_table, face_rows, joined}
use Rattle.layout.specs.Items.{face}
use Rattle.filling.proofs.Passing.{passes_filled, rows_put, then_any, face_node}
use Rattle.filling.proofs.parts.faces_into.Goals as goal

pub returns : goal.returns
returns c =
    let a = c.args in let t = c.top_at-top.result in λ d. passes_filled _ _ _ _ face t c.top_at-top.ensures _ _ _ (λ h b. _ ≡ sets a.faces.now _ (joined (face_rows h b))) _ c.count_of-n.ensures c.put_record.ensures (λ h f w. then_any _ d _ face h.fifth _ _ face_node (c.put_faces.ensures.says h f w)) (λ h b w y. rows_put face_table h b t.value _ _ a.faces.now _ w c.rows_before-before.ensures refl y)
