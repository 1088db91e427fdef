use mathlib.Core.Path.{refl}
use Rattle.sections.proofs.Ids.{id_two, id_kind, id_other}
use Rattle.sections.proofs.Sections.{sect_is}
use Rattle.sections.specs.Sections.{room_all}
use Rattle.sofar.specs.States.{state_for}
use Rattle.sections.proofs.section.by_id.Goals as goal

pub returns-then-id-eq2 : goal.returns-then-id-eq2
returns-then-id-eq2 c = let a = c.args in sect_is _ _ (id_two _ (room_all a.room) a.id (state_for a.kept.now a.x) _ c.if-id-eq2.true) (c.two_at.ensures (state_for a.kept.now a.x) refl)

pub returns-in-Some : goal.returns-in-Some
returns-in-Some c =
    let a = c.args in sect_is _ _ (id_kind _ (room_all a.room) a.id (state_for a.kept.now a.x) _ c.if-id-eq2.false c.kind_of.ensures _ c.in-Some.is) c.kind_at.ensures

pub returns-in-None : goal.returns-in-None
returns-in-None c =
    let a = c.args in sect_is _ _ (id_other _ (room_all a.room) a.id (state_for a.kept.now a.x) _ c.if-id-eq2.false c.kind_of.ensures c.in-None.is) (c.other_at.ensures (room_all a.room))
