-- `audit::audit` meets its contract: three refusals, and the two passes. Assumes nothing.
use native.Mathlib.Omega.{arith}
use borrow.Author.Rules.{rules}
use Rattle.mesh.specs.Rows.{places}
use Rattle.audit.proofs.Whole.{refuse_dimension, refuse_totals, refuse_counts, accept, totals_within}
use Rattle.audit.proofs.audit.Goals as goal

pub returns-then-not-is_dimension : goal.returns-then-not-is_dimension
returns-then-not-is_dimension c = refuse_dimension _ _ _ _ (search rules)

pub returns-then-not-totals_fit : goal.returns-then-not-totals_fit
returns-then-not-totals_fit c =
    refuse_totals _ _ _ _ (search rules) (search rules)

pub returns-then-counts-wanted : goal.returns-then-counts-wanted
returns-then-counts-wanted c =
    refuse_counts _ _ _ _ (search rules) (search rules) c.if-counts-wanted.true

pub audit_faces-half-requires : goal.audit_faces-half-requires
audit_faces-half-requires c =
    let w = totals_within places c.args.nodes c.args.faces c.args.cells c.args.face_rows.now c.args.cell_rows.now (search rules) in
    (w.0, search rules, w.2)

pub audit_cells-whole-requires : goal.audit_cells-whole-requires
audit_cells-whole-requires c =
    let w = totals_within places c.args.nodes c.args.faces c.args.cells c.args.face_rows.now c.args.cell_rows.now (search rules) in
    let v = c.audit_faces-half.ensures.visited in
    (w.1, omega (arith, c.audit_faces-half.auto.counts), omega (arith, w.0, v.counted, v.few), w.3)

pub returns : goal.returns
returns c =
    accept _ _ _ _ (search rules) (search rules) (search rules) c.audit_faces-half.ensures c.audit_cells-whole.ensures
