use Rattle.std.proofs.lemmas.Result.{err_from_is_err_and}
use Rattle.sections.proofs.Sections.{gate_no, gate_fine, decl_as}
use Rattle.sections.proofs.section.decl_at.Goals as goal

pub returns-in_err-decl_judged : goal.returns-in_err-decl_judged
returns-in_err-decl_judged c =
    let p = err_from_is_err_and c.from_residual.result c.from_residual.ensures.1 in
    rw (p.1, p.2) (gate_no _ _ (decl_as c.args.x c.args.room c.args.kind c.args.h c.rows.ensures c.decl_judged.ensures) _ _ c.in_err-decl_judged.was)

pub returns : goal.returns
returns c = gate_fine _ _ (decl_as c.args.x c.args.room c.args.kind c.args.h c.rows.ensures c.decl_judged.ensures) _ c.in_ok-decl_judged.was c.end_at.ensures
