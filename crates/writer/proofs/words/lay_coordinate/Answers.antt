use Rattle.putting.proofs.Laying.{laid_whole}
use Rattle.putting.proofs.Signs.{laid_coordinate}
use Rattle.writer.proofs.words.lay_coordinate.Goals as goal

pub returns : goal.returns
returns c = laid_coordinate _ _ _ c.ranges.m c.ranges.e (laid_whole c.lay_signed-c.ensures) (rw c.from.ensures at (laid_whole c.lay_signed.ensures))
