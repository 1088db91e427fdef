use mathlib.Core.Path.{refl, ap, ◌∙◌}
use native.Mathlib.Omega.{arith}
use Rattle.layout.specs.Read.{answer_of}
use Rattle.layout.proofs.Shown.{shown_only}
use Rattle.sofar.specs.declared.Room.{Room}
use Rattle.sections.specs.Sections.{room_all}
use Rattle.endings.specs.Endings.{verdict}
use Rattle.survey.specs.Sites.{places_of}
use Rattle.points.proofs.Good.{few_coordinates}
use Rattle.filling.proofs.Cored.{few_accepted, core_refused, core_accepted}
use Rattle.filling.specs.Found.{room_with, told, core_of}
use Rattle.filling.proofs.flat.read_flat.Goals as goal

pub fill_tables-requires : goal.fill_tables-requires
fill_tables-requires c =
    let a = c.args in (few_accepted (room_with (record { mantissas = a.mantissas.now; exponents = a.exponents.now; faces = a.faces.now; cells = a.cells.now }) a.room) a.s.now (record { mantissas = a.mantissas.now; exponents = a.exponents.now; faces = a.faces.now; cells = a.cells.now }) _ (shown_only _ _ c.locate-located.ensures.0 ∙ ap (λ (y : Room). verdict (answer_of (room_all y) a.s.now)) c.room_for-limits.ensures) _ _ _ _ _ c.in-Ok.is, few_coordinates _ _ c.coordinates_in-d.ensures)

pub returns-in-Err : goal.returns-in-Err
unfolding core_of
returns-in-Err c =
    let a = c.args in ap told (core_refused (answer_of (room_with (record { mantissas = a.mantissas.now; exponents = a.exponents.now; faces = a.faces.now; cells = a.cells.now }) a.room) a.s.now) _ _ (shown_only _ _ c.locate-located.ensures.0 ∙ ap (λ (y : Room). verdict (answer_of (room_all y) a.s.now)) c.room_for-limits.ensures) _ _ _ c.in-Err.is)

pub returns-in-Ok : goal.returns-in-Ok
unfolding core_of
returns-in-Ok c =
    let a = c.args in
    let same = ap told (core_accepted (room_with (record { mantissas = a.mantissas.now; exponents = a.exponents.now; faces = a.faces.now; cells = a.cells.now }) a.room) a.s.now _ _ (shown_only _ _ c.locate-located.ensures.0 ∙ ap (λ (y : Room). verdict (answer_of (room_all y) a.s.now)) c.room_for-limits.ensures) _ _ _ _ _ c.in-Ok.is _ c.coordinates_in-d.ensures _ (c.locate-located.ensures.1 ∙ ap (λ (y : Room). places_of (room_all y) a.s.now) c.room_for-limits.ensures) _ refl _ c.fill_tables.ensures.rows) in
    grind arith
