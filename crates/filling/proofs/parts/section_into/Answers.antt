use mathlib.Core.Path.{refl, ap, ◌∙◌}
use Rattle.spots.specs.Heads.{kind_for}
use Rattle.layout.specs.Rows.{mantissa_table, exponent_table, face_table, cell_table}
use Rattle.layout.specs.Items.{node, cell, face, id_of}
use Rattle.filling.proofs.Sectioned.{named_is, passes_kind, passes_none, laid_other}
use Rattle.filling.proofs.parts.section_into.Goals as goal

pub returns-in-Node-clause-rows : goal.returns-in-Node-clause-rows
returns-in-Node-clause-rows c =
    let a = c.args in passes_kind _ _ _ _ c.value_at-id.ensures _ _ _ _ _ node _ (named_is _ _ c.kind_by-named.ensures _ c.in-Some.is ∙ ap (λ j. id_of (kind_for j)) c.in-Node.is) c.nodes_into.ensures (λ h b p. (p.0, p.1, laid_other face_table node h b a.lent.now.faces.now refl, laid_other cell_table node h b a.lent.now.cells.now refl))

pub returns-in-Cell-clause-rows : goal.returns-in-Cell-clause-rows
returns-in-Cell-clause-rows c =
    let a = c.args in passes_kind _ _ _ _ c.value_at-id.ensures _ _ _ _ _ cell _ (named_is _ _ c.kind_by-named.ensures _ c.in-Some.is ∙ ap (λ j. id_of (kind_for j)) c.in-Cell.is) (c.cells_into.ensures a.d) (λ h b p. (laid_other mantissa_table cell h b a.lent.now.mantissas.now refl, laid_other exponent_table cell h b a.lent.now.exponents.now refl, laid_other face_table cell h b a.lent.now.faces.now refl, p))

pub returns-in-Face-clause-rows : goal.returns-in-Face-clause-rows
returns-in-Face-clause-rows c =
    let a = c.args in passes_kind _ _ _ _ c.value_at-id.ensures _ _ _ _ _ face _ (named_is _ _ c.kind_by-named.ensures _ c.in-Some.is ∙ ap (λ j. id_of (kind_for j)) c.in-Face.is) (c.faces_into.ensures a.d) (λ h b p. (laid_other mantissa_table face h b a.lent.now.mantissas.now refl, laid_other exponent_table face h b a.lent.now.exponents.now refl, p, laid_other cell_table face h b a.lent.now.cells.now refl))

pub returns-in_default-clause-rows : goal.returns-in_default-clause-rows
returns-in_default-clause-rows c = passes_none _ _ _ _ c.value_at-id.ensures _ _ _ _ _ _ c.kind_by-named.ensures c.in_default.is
