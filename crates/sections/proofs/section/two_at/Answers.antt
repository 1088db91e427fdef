use Rattle.std.proofs.lemmas.Result.{err_from_is_err_and}
use Rattle.sections.proofs.Sections.{read_no, read_to, two_shut, two_refused, two_done}
use Rattle.layout.specs.Sections.{two_of}
use Rattle.sections.proofs.section.two_at.Goals as goal

pub returns-in_err-n : goal.returns-in_err-n
unfolding two_of
returns-in_err-n c = λ x e.
    let p = err_from_is_err_and c.from_residual.result c.from_residual.ensures.1 in
    rw (p.1, p.2) (read_no _ _ _ c.number_at.ensures _ c.in_err-n.was)

pub returns-in_err-close : goal.returns-in_err-close
unfolding two_of
returns-in_err-close c = λ x e.
    let p = err_from_is_err_and c.from_residual-in_err-close.result c.from_residual-in_err-close.ensures.1 in
    rw (p.1, p.2) (read_to _ _ _ c.number_at.ensures _ c.in_ok-n.was (two_shut _ _ x _ e c.in_ok-n.n.value.value c.in_ok-n.n.value.at c.right_at.ensures _ c.in_err-close.was))

pub returns-in_err-two_judged : goal.returns-in_err-two_judged
unfolding two_of
returns-in_err-two_judged c = λ x e.
    let p = err_from_is_err_and c.from_residual-in_err-two_judged.result c.from_residual-in_err-two_judged.ensures.1 in
    rw (p.1, p.2) (read_to _ _ _ c.number_at.ensures _ c.in_ok-n.was (two_refused _ _ x _ e c.in_ok-n.n.value.value c.in_ok-n.n.value.at c.right_at.ensures _ c.in_ok-close.was _ c.two_judged.ensures _ c.in_err-two_judged.was))

pub returns : goal.returns
unfolding two_of
returns c = λ x e. read_to _ _ _ c.number_at.ensures _ c.in_ok-n.was (two_done _ _ x _ e c.in_ok-n.n.value.value c.in_ok-n.n.value.at c.right_at.ensures _ c.in_ok-close.was _ c.two_judged.ensures c.in_ok-two_judged.was)
