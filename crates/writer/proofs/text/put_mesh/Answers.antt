use Rattle.putting.proofs.Laying.{laid_of}
use Rattle.writer.specs.inner.Tables.{held}
use Rattle.writer.proofs.Mesh.{put_mesh_is}
use Rattle.writer.proofs.text.put_mesh.Goals as goal

pub returns : goal.returns
returns c =
    let a = c.args in put_mesh_is a.totals _ (held a.tables) a.zones.now c.from.ensures (laid_of c.put_text-a.ensures) (laid_of c.put_hex-b.ensures) (laid_of c.put_text-c.ensures) c.put_decl-e.ensures c.put_decl-f.ensures c.put_decl-g.ensures c.put_parts.ensures
