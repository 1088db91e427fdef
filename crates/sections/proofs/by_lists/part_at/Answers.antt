use Rattle.std.proofs.lemmas.Result.{err_from_is_err_and}
use Rattle.kept.specs.Kept.{listed, kept_by_lists}
use Rattle.sections.proofs.Sections.{gate_no, gate_fine, part_as}
use Rattle.sections.proofs.by_lists.part_at.Goals as goal

pub returns-in_err-part_judged : goal.returns-in_err-part_judged
returns-in_err-part_judged c =
    let p = err_from_is_err_and c.from_residual.result c.from_residual.ensures.1 in
    rw (p.1, p.2) (gate_no _ _ (part_as c.args.x c.args.room c.args.kind c.args.h (kept_by_lists (listed c.args.lists)) c.id_of-id.ensures c.is_clear_by_lists-apart.ensures c.part_judged.ensures) _ _ c.in_err-part_judged.was)

pub returns : goal.returns
returns c = gate_fine _ _ (part_as c.args.x c.args.room c.args.kind c.args.h (kept_by_lists (listed c.args.lists)) c.id_of-id.ensures c.is_clear_by_lists-apart.ensures c.part_judged.ensures) _ c.in_ok-part_judged.was c.rows_at.ensures
