use Rattle.putting.proofs.Laying.{laid_whole}
use Rattle.writer.proofs.Writing.{facet_mixed, facet_plain}
use Rattle.writer.proofs.faces.put_facet.Goals as goal
use Rattle.writer.proofs.faces.put_facet.Goals.{then-mixed, else-mixed}

pub returns : goal.returns
returns c =
    let p = c.requires in
    elim c.if-mixed.branch [
      | then-mixed w ↦ facet_mixed c.args.row.now c.told-row p.0 p.1 c.args.mixed c.if-mixed.from c.lay_words-c.ensures (laid_whole c.lay_word-right.ensures) (laid_whole c.lay_word.ensures) w.if-mixed.true w.from-is
      | else-mixed w ↦ facet_plain c.args.row.now c.told-row p.0 p.1 c.args.mixed c.if-mixed.from c.lay_words-c.ensures (laid_whole c.lay_word-right.ensures) (laid_whole c.lay_word.ensures) w.if-mixed.false w.from-is
    ]
