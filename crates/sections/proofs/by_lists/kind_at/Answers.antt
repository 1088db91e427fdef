use Rattle.std.proofs.lemmas.Result.{err_from_is_err_and}
use Rattle.sections.proofs.Sections.{read_no, read_to}
use Rattle.layout.specs.Sections.{kind_of}
use Rattle.sections.proofs.by_lists.kind_at.Goals as goal

pub returns-in_err-head : goal.returns-in_err-head
unfolding kind_of
returns-in_err-head c =
    let p = err_from_is_err_and c.from_residual.result c.from_residual.ensures.1 in
    rw (p.1, p.2) (read_no _ _ _ c.head_at.ensures _ c.in_err-head.was)

pub returns : goal.returns
unfolding kind_of
returns c = read_to _ _ _ c.head_at.ensures _ c.in_ok-head.was c.behind_head.ensures
