-- `tokens::run_end` meets its contract. The loop's invariant: the run from i on ends where the run from `at` on does. Assumes nothing.
use mathlib.Core.Path.{◌≡◌, sym, ◌∙◌}
use native.Mathlib.Omega.{arith}
use borrow.Author.Tests.{leb-true, leb-false}
use lib.Dec.{leb}
use lib.ListN.{length}
use Rattle.facts.proofs.Branch.{split}
use Rattle.tokens.proofs.Laws.{run_more, run_stop, run_out}
use Rattle.tokens.proofs.run_end.Goals as goal

pub loop-i-preserved : goal.loop-i-preserved
loop-i-preserved c =
    run_more _ _ _ (omega arith) (rw (← c.class_of.ensures) (sym c.goes_on.ensures ∙ c.if-not-goes_on.false))
    ∙ c.loop-i.invariant

-- a byte that does not go on
pub returns-then-not-goes_on : goal.returns-then-not-goes_on
returns-then-not-goes_on c =
    run_stop _ _ _ (omega arith) (rw (← c.class_of.ensures) (sym c.goes_on.ensures ∙ c.if-not-goes_on.true))
    ∙ c.loop-i.invariant

-- the end of the file, or a place behind it
pub returns : goal.returns
returns c =
    split (leb c.args.at (length c.args.s.now))
    (λ p. let h = leb-true _ _ p in let e : c.max.result ≡ c.loop-i.i = omega arith in e ∙ run_out _ _ _ (omega arith) ∙ c.loop-i.invariant)
    (λ p. let h = leb-false _ _ p in let e : c.max.result ≡ c.args.at = omega arith in e ∙ run_out _ _ _ (omega arith))
