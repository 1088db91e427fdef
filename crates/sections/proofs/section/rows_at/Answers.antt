use Rattle.std.proofs.lemmas.Result.{err_from_is_err_and}
use Rattle.notes.specs.declared.note.Met.{Met}
use Rattle.sections.proofs.Sections.{body_as, rows_no, rows_to}
use Rattle.sections.proofs.section.rows_at.Goals as goal

pub returns-in_err-behind : goal.returns-in_err-behind
returns-in_err-behind c =
    let p = err_from_is_err_and c.from_residual.result c.from_residual.ensures.1 in
    rw (p.1, p.2) (rows_no _ _ (Met.Part c.args.kind c.args.h) (body_as c.args.s.now c.args.at c.args.kind c.args.dim c.args.h c.word-fifth.ensures c.dim_word-word.ensures c.dim_after-d.ensures c.count_of-n.ensures c.body_at.ensures) _ c.in_err-behind.was)

pub returns : goal.returns
returns c = rows_to _ _ (Met.Part c.args.kind c.args.h) (body_as c.args.s.now c.args.at c.args.kind c.args.dim c.args.h c.word-fifth.ensures c.dim_word-word.ensures c.dim_after-d.ensures c.count_of-n.ensures c.body_at.ensures) _ c.in_ok-behind.was c.end_at.ensures
