use Rattle.putting.proofs.Counting.{counted_bits}
use Rattle.putting.proofs.number.hex_count.Goals as goal

pub returns : goal.returns
returns c = counted_bits _ c.ranges.n.fits
