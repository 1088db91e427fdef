use Rattle.std.proofs.lemmas.Result.{err_from_is_err_and}
use Rattle.heads.proofs.Headers.{fifth_absent, fifth_bad, fifth_given}
use Rattle.heads.proofs.head.fifth_at.Goals as goal

pub returns-then-is_absent : goal.returns-then-is_absent
returns-then-is_absent c = fifth_absent _ _ _ _ c.is_absent.ensures c.if-is_absent.true

pub returns-in_err-word : goal.returns-in_err-word
returns-in_err-word c =
    let p = err_from_is_err_and c.from_residual.result c.from_residual.ensures.1 in
    rw (p.1, p.2) (fifth_bad _ _ _ _ c.is_absent.ensures c.if-is_absent.false c.number_at.ensures _ c.in_err-word.was)

pub returns : goal.returns
returns c = fifth_given _ _ _ _ c.is_absent.ensures c.if-is_absent.false c.number_at.ensures _ c.in_ok-word.was
