use mathlib.Core.Path.{◌≡◌}
use Rattle.tokens.specs.Tokens.{run_at}
use Rattle.tokens.proofs.run_end.Given as goal

abbrev pub invariant-loop-i : goal.invariant-loop-i
invariant-loop-i l = run_at l.k l.s l.i ≡ run_at l.k l.s l.at
