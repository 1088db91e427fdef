use Rattle.std.proofs.lemmas.Result.{err_from_is_err_and}
use Rattle.sections.proofs.Sections.{end_no, end_to}
use Rattle.sections.proofs.section.end_at.Goals as goal

pub returns-in_err-close : goal.returns-in_err-close
returns-in_err-close c =
    let p = err_from_is_err_and c.from_residual.result c.from_residual.ensures.1 in
    rw (p.1, p.2) (end_no _ _ c.args.met c.right_at.ensures _ c.in_err-close.was)

pub returns : goal.returns
returns c = end_to _ _ c.args.met c.right_at.ensures _ c.in_ok-close.was
