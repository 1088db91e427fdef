use Rattle.std.proofs.Common.{sym, arith}
use lib.Seq.{length-take-le}
use Rattle.putting.proofs.Counting.{count_small}
use Rattle.putting.proofs.Figuring.{put_from}
use Rattle.putting.proofs.number.put_cut.Goals as goal

pub lay_figures-requires : goal.lay_figures-requires
lay_figures-requires g c = let p = c.requires in (p.0, p.1, omega (arith, p.2), omega (arith, p.2, count_small _ p.0 p.1 _ c.ranges.n.fits))

pub slice_bounds-whole-end : goal.slice_bounds-whole-end
slice_bounds-whole-end g c = let p = c.requires in omega (arith, p.2, count_small _ p.0 p.1 _ c.ranges.n.fits)

pub slice_bounds-put_text-end : goal.slice_bounds-put_text-end
slice_bounds-put_text-end g c = let p = c.requires in sym (length-take-le _ _ (omega (arith, p.2, count_small _ p.0 p.1 _ c.ranges.n.fits, c.lay_figures.auto.out)))

pub returns : goal.returns
returns g c = let p = c.requires in put_from _ _ _ _ c.lay_figures.ensures p.2 (omega (arith, count_small _ p.0 p.1 _ c.ranges.n.fits)) c.put_text.ensures
