use lib.ListN.{length-set}
use Rattle.figures.proofs.Figures.{figures_some}
use Rattle.putting.proofs.Counting.{count_small}
use Rattle.putting.proofs.Figuring.{laid_counted, laid_there}
use Rattle.putting.proofs.Signs.{signed_few, signed_long, signed_laid}
use native.Mathlib.Omega.{arith}
use Rattle.putting.proofs.signed.lay_signed.Goals as goal

pub overflow_add-long : goal.overflow_add-long
overflow_add-long c =
    omega (arith, signed_few _ c.ranges.z c.magnitude-n.ensures c.sign_count-before.ensures, c.decimal_count-count.ensures, count_small 10 (omega arith) (omega arith) _ c.magnitude-n.type_inv)

pub bounds-out-sign : goal.bounds-out-sign
bounds-out-sign c =
    let a = c.args in omega (arith, c.saturating_add-next.ensures, c.if-next-out.true, c.decimal_count-count.ensures, figures_some 10 (omega arith) (omega arith) c.magnitude-n.result, length-set a.out.now a.at a.lead)

pub returns-then-next-out : goal.returns-then-next-out
returns-then-next-out c =
    let a = c.args in let m = c.magnitude-n.ensures in laid_there _ _ _ (omega arith) _ _ (signed_long a.z c.ranges.z m c.sign_count-before.ensures a.lead c.decimal_count-count.ensures) c.saturating_add-next.ensures c.if-next-out.true _ (signed_laid a.z c.ranges.z m c.sign_count-before.ensures a.lead a.at a.out.now _ c.lay_figures.ensures)

pub returns-else-next-out : goal.returns-else-next-out
returns-else-next-out c =
    laid_counted _ _ _ (omega arith) _ _ (signed_long c.args.z c.ranges.z c.magnitude-n.ensures c.sign_count-before.ensures c.args.lead c.decimal_count-count.ensures) c.saturating_add-next.ensures c.if-next-out.false
