use Rattle.std.proofs.lemmas.Result.{err_from_is_err_and}
use Rattle.layout.specs.Sections.{head_of}
use Rattle.spots.specs.Heads.{head_for}
use Rattle.steps.proofs.Chain.{open_no, open_to, then_no, then_to, then_last}
use Rattle.heads.proofs.Headers.{head_with, fifth_no, fifth_to}
use Rattle.heads.proofs.head.head_at.Goals as goal

pub returns-in_err-start : goal.returns-in_err-start
unfolding head_of
returns-in_err-start c =
    let p = err_from_is_err_and c.from_residual.result c.from_residual.ensures.1 in
    rw (p.1, p.2) (open_no head_for _ _ _ c.left_at.ensures _ c.in_err-start.was)

pub returns-in_err-zone : goal.returns-in_err-zone
unfolding head_of
returns-in_err-zone c =
    let p = err_from_is_err_and c.from_residual-in_err-zone.result c.from_residual-in_err-zone.ensures.1 in
    rw (p.1, p.2) (open_to head_for _ _ _ c.left_at.ensures _ c.in_ok-start.was (
    then_no head_for _ _ _ c.number_at.ensures _ c.in_err-zone.was))

pub returns-in_err-first : goal.returns-in_err-first
unfolding head_of
returns-in_err-first c =
    let p = err_from_is_err_and c.from_residual-in_err-first.result c.from_residual-in_err-first.ensures.1 in
    rw (p.1, p.2) (open_to head_for _ _ _ c.left_at.ensures _ c.in_ok-start.was (
    then_to head_for _ _ _ c.number_at.ensures _ c.in_ok-zone.was (
    then_no head_for _ _ _ c.number_at-2.ensures _ c.in_err-first.was)))

pub returns-in_err-last : goal.returns-in_err-last
unfolding head_of
returns-in_err-last c =
    let p = err_from_is_err_and c.from_residual-in_err-last.result c.from_residual-in_err-last.ensures.1 in
    rw (p.1, p.2) (open_to head_for _ _ _ c.left_at.ensures _ c.in_ok-start.was (
    then_to head_for _ _ _ c.number_at.ensures _ c.in_ok-zone.was (
    then_to head_for _ _ _ c.number_at-2.ensures _ c.in_ok-first.was (
    then_no head_for _ _ _ c.number_at-3.ensures _ c.in_err-last.was))))

pub returns-in_err-ztype : goal.returns-in_err-ztype
unfolding head_of
returns-in_err-ztype c =
    let p = err_from_is_err_and c.from_residual-in_err-ztype.result c.from_residual-in_err-ztype.ensures.1 in
    rw (p.1, p.2) (open_to head_for _ _ _ c.left_at.ensures _ c.in_ok-start.was (
    then_to head_for _ _ _ c.number_at.ensures _ c.in_ok-zone.was (
    then_to head_for _ _ _ c.number_at-2.ensures _ c.in_ok-first.was (
    then_to head_for _ _ _ c.number_at-3.ensures _ c.in_ok-last.was (
    then_no head_for _ _ _ c.number_at-4.ensures _ c.in_err-ztype.was)))))

pub returns-in_err-fifth : goal.returns-in_err-fifth
unfolding head_of
returns-in_err-fifth c =
    let p = err_from_is_err_and c.from_residual-in_err-fifth.result c.from_residual-in_err-fifth.ensures.1 in
    rw (p.1, p.2) (open_to head_for _ _ _ c.left_at.ensures _ c.in_ok-start.was (
    then_to head_for _ _ _ c.number_at.ensures _ c.in_ok-zone.was (
    then_to head_for _ _ _ c.number_at-2.ensures _ c.in_ok-first.was (
    then_to head_for _ _ _ c.number_at-3.ensures _ c.in_ok-last.was (
    then_to head_for _ _ _ c.number_at-4.ensures _ c.in_ok-ztype.was (
    fifth_no head_for _ _ _ c.fifth_at.ensures _ c.in_err-fifth.was))))))

pub returns-in_err-close : goal.returns-in_err-close
unfolding head_of
returns-in_err-close c =
    let p = err_from_is_err_and c.from_residual-in_err-close.result c.from_residual-in_err-close.ensures.1 in
    rw (p.1, p.2) (open_to head_for _ _ _ c.left_at.ensures _ c.in_ok-start.was (
    then_to head_for _ _ _ c.number_at.ensures _ c.in_ok-zone.was (
    then_to head_for _ _ _ c.number_at-2.ensures _ c.in_ok-first.was (
    then_to head_for _ _ _ c.number_at-3.ensures _ c.in_ok-last.was (
    then_to head_for _ _ _ c.number_at-4.ensures _ c.in_ok-ztype.was (
    fifth_to head_for _ _ _ c.fifth_at.ensures _ c.in_ok-fifth.was (
    then_no head_for _ _ _ c.right_at.ensures _ c.in_err-close.was)))))))

pub returns : goal.returns
unfolding head_of
returns c = open_to head_for _ _ _ c.left_at.ensures _ c.in_ok-start.was (
    then_to head_for _ _ _ c.number_at.ensures _ c.in_ok-zone.was (
    then_to head_for _ _ _ c.number_at-2.ensures _ c.in_ok-first.was (
    then_to head_for _ _ _ c.number_at-3.ensures _ c.in_ok-last.was (
    then_to head_for _ _ _ c.number_at-4.ensures _ c.in_ok-ztype.was (
    fifth_to head_for _ _ _ c.fifth_at.ensures _ c.in_ok-fifth.was (
    then_last head_for _ _ _ c.right_at.ensures _ c.in_ok-close.was _ (head_with _ _ _ _ _ _ c.word_of.ensures c.place_of.ensures)))))))
