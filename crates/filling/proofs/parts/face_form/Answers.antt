use Rattle.filling.proofs.Passing.{form_mixed, form_facing}
use Rattle.filling.proofs.parts.face_form.Goals as goal

-- src/parts.rt:112:1
pub returns-then-mixed : goal.returns-then-mixed
returns-then-mixed c = form_mixed c.args.element _ c.is_mixed-mixed.ensures c.if-mixed.true

-- src/parts.rt:112:1
pub returns-else-mixed : goal.returns-else-mixed
returns-else-mixed c = form_facing c.args.element _ c.is_mixed-mixed.ensures c.if-mixed.false
