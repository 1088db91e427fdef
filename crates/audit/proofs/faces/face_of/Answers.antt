-- `audit::faces::face_of` meets its contract: each word of the row, by the laws of rows. Assumes nothing.
use borrow.Author.Rules.{rules}
use Rattle.mesh.proofs.Rows.{face_there}
use Rattle.audit.proofs.faces.face_of.Goals as goal

pub returns : goal.returns
returns c = face_there 4 _ _ (search rules)
