use Rattle.std.proofs.lemmas.Result.{err_from_is_err_and}
use Rattle.sections.proofs.Ids.{section_no, section_to, section_binary}
use Rattle.sections.specs.Sections.{room_all}
use Rattle.sofar.specs.States.{state_for}
use Rattle.sections.proofs.section.section_at.Goals as goal

pub returns-in_err-id : goal.returns-in_err-id
returns-in_err-id c =
    let p = err_from_is_err_and c.from_residual.result c.from_residual.ensures.1 in
    rw (p.1, p.2) (section_no _ _ (room_all c.args.room) (state_for c.args.kept.now c.args.x) c.id_at.ensures _ c.in_err-id.was)

pub returns-then-is_text : goal.returns-then-is_text
returns-then-is_text c = section_to _ _ (room_all c.args.room) (state_for c.args.kept.now c.args.x) c.id_at.ensures _ c.in_ok-id.was _ c.is_text.ensures c.if-is_text.true c.by_id.ensures

pub returns : goal.returns
returns c = section_binary _ _ (room_all c.args.room) (state_for c.args.kept.now c.args.x) c.id_at.ensures _ c.in_ok-id.was _ c.is_text.ensures c.if-is_text.false
