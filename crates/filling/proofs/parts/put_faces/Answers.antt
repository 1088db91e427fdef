use Rattle.filling.proofs.Passing.{faces_body}
use Rattle.filling.proofs.parts.put_faces.Goals as goal

pub returns : goal.returns
returns c = let a = c.args in faces_body _ _ a.n a.k a.zone a.faces.now _ _ _ c.face_form-form.ensures c.past_left-inside.ensures c.put_rows.ensures
