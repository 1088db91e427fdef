use Rattle.std.proofs.lemmas.Result.{err_from_is_err_and}
use Rattle.sections.proofs.Sections.{other_no, other_to}
use Rattle.sections.proofs.section.other_at.Goals as goal

pub returns-in_err-next : goal.returns-in_err-next
returns-in_err-next c = λ room.
    let p = err_from_is_err_and c.from_residual.result c.from_residual.ensures.1 in
    rw (p.1, p.2) (other_no _ _ room c.skip_from.ensures _ c.in_err-next.was)

pub returns : goal.returns
returns c = λ room. other_to _ _ room c.skip_from.ensures _ c.in_ok-next.was
