use mathlib.Core.Path.{refl}
use Rattle.answers.proofs.Said.{answered}
use Rattle.answers.specs.Words.{write_words}
use Rattle.writer.specs.Writer.{values_of}
use Rattle.answers.proofs.answers.answer_write.Goals as goal

pub returns-in-Err : goal.returns-in-Err
returns-in-Err c =
    answered (λ y. (values_of y).number) (λ y. write_words (values_of y)) _ _ c.in-Err.is _ c.args.answer.now _ c.from.ensures c.copy_into.ensures

pub returns-in-Ok : goal.returns-in-Ok
returns-in-Ok c =
    answered (λ y. (values_of y).number) (λ y. write_words (values_of y)) _ _ c.in-Ok.is _ c.args.answer.now _ refl c.copy_into-in-Ok.ensures
