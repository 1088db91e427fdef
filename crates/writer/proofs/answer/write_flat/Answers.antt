use mathlib.Core.Path.{refl}
use Rattle.writer.proofs.Answers.{answers_18, all_there, answers_19, answers_0}
use Rattle.writer.proofs.answer.write_flat.Goals as goal

pub returns-then-not-is_writable : goal.returns-then-not-is_writable
returns-then-not-is_writable c =
    let a = c.args in answers_18 _ a.zones.now refl refl c.is_writable.ensures a.text.now c.if-not-is_writable.true

pub put_mesh-bytes-requires : goal.put_mesh-bytes-requires
put_mesh-bytes-requires c =
    let a = c.args in all_there _ a.zones.now refl refl c.is_writable.ensures c.if-not-is_writable.false

pub returns-then-not-has_room : goal.returns-then-not-has_room
returns-then-not-has_room c =
    let a = c.args in answers_19 _ a.zones.now refl refl c.is_writable.ensures c.if-not-is_writable.false a.text.now c.put_mesh-bytes.ensures c.has_room.ensures c.if-not-has_room.true

pub put_mesh-requires : goal.put_mesh-requires
put_mesh-requires c =
    let a = c.args in all_there _ a.zones.now refl refl c.is_writable.ensures c.if-not-is_writable.false

pub returns : goal.returns
returns c =
    let a = c.args in answers_0 _ a.zones.now refl refl c.is_writable.ensures c.if-not-is_writable.false a.text.now c.put_mesh-bytes.ensures c.has_room.ensures c.if-not-has_room.false c.put_mesh.ensures
