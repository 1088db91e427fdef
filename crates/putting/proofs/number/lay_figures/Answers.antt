use Rattle.putting.proofs.Figuring.{laying_next}
use Rattle.putting.proofs.number.lay_figures.Goals as goal

pub loop-left-preserved : goal.loop-left-preserved
loop-left-preserved g c = let p = c.requires in laying_next _ p.0 p.1 _ _ _ _ _ _ c.loop-left.invariant c.loop-left-test.true _ c.figure_of.ensures
