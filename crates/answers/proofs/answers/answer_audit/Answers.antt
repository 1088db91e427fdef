use mathlib.Core.Path.{refl}
use Rattle.answers.proofs.Said.{answered}
use Rattle.answers.specs.Words.{audit_words}
use Rattle.audit.specs.Audit.{values_of}
use Rattle.answers.proofs.answers.answer_audit.Goals as goal

pub returns-in-Err : goal.returns-in-Err
returns-in-Err c =
    answered (λ y. (values_of y).number) (λ y. audit_words (values_of y)) _ _ c.in-Err.is _ c.args.answer.now _ c.from.ensures c.copy_into.ensures

pub returns-in-Ok : goal.returns-in-Ok
returns-in-Ok c =
    answered (λ y. (values_of y).number) (λ y. audit_words (values_of y)) _ _ c.in-Ok.is _ c.args.answer.now _ refl (rw c.from-total.ensures at c.copy_into-in-Ok.ensures)
