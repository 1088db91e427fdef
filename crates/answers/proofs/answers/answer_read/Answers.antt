use mathlib.Core.Path.{refl}
use Rattle.answers.proofs.Said.{answered}
use Rattle.answers.specs.Words.{read_words}
use Rattle.layout.specs.Replies.{shown}
use Rattle.answers.proofs.answers.answer_read.Goals as goal

pub returns-in-Err : goal.returns-in-Err
returns-in-Err c =
    answered (λ y. (shown y).number) (λ y. read_words (shown y)) _ _ c.in-Err.is _ c.args.answer.now _ c.number_of.ensures (rw c.from-section.ensures at c.copy_into.ensures)

pub returns-in-Ok : goal.returns-in-Ok
returns-in-Ok c =
    answered (λ y. (shown y).number) (λ y. read_words (shown y)) _ _ c.in-Ok.is _ c.args.answer.now _ refl (rw (c.from-dim.ensures, c.from-nodes.ensures, c.from-faces.ensures, c.from-cells.ensures, c.from-zones.ensures) at c.copy_into-in-Ok.ensures)
