use mathlib.Core.Path.{◌≡◌}
use Rattle.kept.specs.Kept.{listed, holder_of}
use Rattle.kept.proofs.by_lists.holder.Given as goal

abbrev pub invariant-loop-left : goal.invariant-loop-left
invariant-loop-left l = holder_of (listed l.lists) l.id l.i l.left ≡ holder_of (listed l.lists) l.id l.i l.z
