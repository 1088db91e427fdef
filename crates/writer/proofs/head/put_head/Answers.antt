use Rattle.putting.proofs.Laying.{laid_of, laid_more}
use Rattle.writer.specs.inner.Rows.{head_bytes}
use Rattle.writer.proofs.head.put_head.Goals as goal

pub returns : goal.returns
unfolding head_bytes
returns c =
    laid_more (laid_of c.put_byte-a.ensures) (laid_more (rw (c.from.ensures, c.id_of.ensures) at (laid_of c.put_decimal-b.ensures)) (laid_more (laid_of c.put_text-c.ensures) (laid_more (rw c.from-2.ensures at (laid_of c.put_hex-d.ensures)) (laid_more c.lay_words-e.ensures (laid_of c.put_byte.ensures)))))
