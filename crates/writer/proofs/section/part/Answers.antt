use Rattle.std.proofs.Common.{◌≤◌, length, arith}
use Rattle.writer.proofs.Sections.{part_room, part_is}
use Rattle.writer.proofs.section.part.Goals as goal

pub slice_bounds-result-end : goal.slice_bounds-result-end
slice_bounds-result-end g c =
    let p = c.requires in
    let h : c.args.z.last ≤ length c.as_chunks.result.0.now = omega (arith, part_room g.row.N c.args.z p.0 p.1, c.as_chunks.ensures.front_len) in
    h

pub returns : goal.returns
returns g c =
    let p = c.requires in
    let z = c.args.z in
    rw c.as_chunks.ensures.front (part_is g.row.N z p.0 c.args.table.now p.1)
