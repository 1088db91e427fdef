use Rattle.std.proofs.Common.{◌∙◌, ap}
use Rattle.std.specs.List.{list_all}
use Rattle.texts.specs.Judged.{face_by}
use Rattle.writer.proofs.RowTests.{all_is}
use Rattle.writer.proofs.rows.face_section_fits.Goals as goal

pub returns : goal.returns
returns c = let f = face_by c.args.z.element c.args.z.ztype in c.faces_fit.ensures ∙ ap (list_all f) c.part.ensures ∙ all_is f _
