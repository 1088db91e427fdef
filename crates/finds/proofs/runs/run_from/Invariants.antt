use Prim.Native.Nat.{◌-◌}
use mathlib.Core.Path.{◌≡◌}
use lib.ListN.{length}
use Rattle.tokens.specs.declared.Run.{Run}
use Rattle.tokens.specs.Tokens.{run_at}
use Rattle.finds.specs.Eights.{goes, Shows}
use Rattle.finds.proofs.runs.run_from.Given as goal

abbrev pub invariant-loop-i : goal.invariant-loop-i
invariant-loop-i g l = (k : Run) → Shows (goes k) (goal.F-post g l.shown) → run_at k l.s l.i ≡ run_at k l.s l.at

abbrev pub decreases-loop-i : goal.decreases-loop-i
decreases-loop-i g l = length l.s - l.i
