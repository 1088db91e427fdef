use mathlib.Core.Path.{◌≡◌}
use Rattle.layout.specs.State.{every, clear}
use Rattle.kept.specs.Kept.{listed, kept_by_lists}
use Rattle.kept.proofs.by_lists.is_clear_by_lists.Given as goal

abbrev pub invariant-loop-i : goal.invariant-loop-i
invariant-loop-i l = every (clear l.first l.last) (kept_by_lists (listed l.lists) l.id l.i) ≡ every (clear l.first l.last) (kept_by_lists (listed l.lists) l.id l.z)
