use Rattle.lines.proofs.Figures.{wrote_figures}
use native.Mathlib.Omega.{arith}
use Rattle.lines.proofs.put.put_decimal.Goals as goal

-- src/put.rt:65:23
pub slice_bounds-put_text-end : goal.slice_bounds-put_text-end
slice_bounds-put_text-end c = omega (arith, c.figures_of-f.ensures.2)

-- src/put.rt:58:1
pub returns : goal.returns
returns c = let e = c.figures_of-f.ensures in let f = c.figures_of-f.result in wrote_figures _ _ f.b f.start _ _ _ e.2 e.0 c.put_text.ensures
