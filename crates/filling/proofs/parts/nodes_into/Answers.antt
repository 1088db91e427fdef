use Rattle.std.specs.Prelude.{◌≡◌, ◌*◌}
use mathlib.Core.Path.{refl}
use lib.Seq.{sets}
use Rattle.layout.specs.Rows.{mantissa_table, exponent_table, node_rows, joined}
use Rattle.layout.specs.Items.{node}
use Rattle.filling.proofs.Passing.{passes_filled, rows_put, nodes_body}
use Rattle.filling.proofs.parts.nodes_into.Goals as goal

pub returns : goal.returns
returns c =
    let a = c.args in let t = c.top_at-top.result in let p = c.rows_before-before.ensures in passes_filled _ _ _ _ node t c.top_at-top.ensures _ _ _ (λ h b. (_ ≡ sets a.mantissas.now _ (joined (node_rows (λ y. y.mantissa) h b))) × (_ ≡ sets a.exponents.now _ (joined (node_rows (λ y. y.exponent) h b)))) _ c.count_of-n.ensures c.put_record.ensures (λ h f w. nodes_body a.s.now t.next c.past_left-inside.result a.d c.count_of-n.result (3 * c.rows_before-before.result) h.fifth h (record { mantissas = a.mantissas.now; exponents = a.exponents.now }) _ c.requires.0 c.past_left-inside.ensures c.put_points.ensures) (λ h b w y. (rows_put mantissa_table h b t.value _ _ a.mantissas.now _ w p refl y.0, rows_put exponent_table h b t.value _ _ a.exponents.now _ w p refl y.1))
