use Rattle.std.proofs.Common.{rules}
use mathlib.Core.Path.{ap, ◌∙◌}
use Rattle.tokens.specs.declared.Run.{Run}
use Rattle.tokens.specs.Tokens.{class_of}
use Rattle.tokens.proofs.Laws.{run_out, run_stop}
use Rattle.finds.specs.Eights.{goes}
use Rattle.finds.proofs.Eights.{searched_ok, searched_err}
use Rattle.finds.proofs.Shown.{marks_show}
use Rattle.finds.proofs.marks.mark_from.Goals as goal
use Rattle.finds.proofs.marks.mark_from.Goals.{then-b-eq34-via-then-b-eq34, then-b-eq34-via-else-b-eq34+then-b-eq40, then-b-eq34-via-else-b-eq34+else-b-eq40+then-b-eq41}

pub returns-then-s-at : goal.returns-then-s-at
returns-then-s-at c = run_out Run.Plain _ _ c.if-s-at.true

-- a mark there
pub returns-then-b-eq34 : goal.returns-then-b-eq34
unfolding class_of
returns-then-b-eq34 c =
    elim c.then-b-eq34.branch [
      | then-b-eq34-via-then-b-eq34 w ↦ run_stop Run.Plain _ _ c.if-s-at.false (ap (goes Run.Plain) w.if-b-eq34.true)
      | then-b-eq34-via-else-b-eq34+then-b-eq40 w ↦ run_stop Run.Plain _ _ c.if-s-at.false (ap (goes Run.Plain) w.if-b-eq40.true)
      | then-b-eq34-via-else-b-eq34+else-b-eq40+then-b-eq41 w ↦ run_stop Run.Plain _ _ c.if-s-at.false (ap (goes Run.Plain) w.if-b-eq41.true)
    ]

pub returns-in-Ok : goal.returns-in-Ok
returns-in-Ok c = searched_ok _ _ _ (c.run_from.ensures Run.Plain (marks_show _ (λ x r a. search rules))) _ c.in-Ok.is

pub returns-in-Err : goal.returns-in-Err
returns-in-Err c = c.last_mark.ensures ∙ (searched_err _ _ _ (c.run_from.ensures Run.Plain (marks_show _ (λ x r a. search rules))) _ c.in-Err.is).0
