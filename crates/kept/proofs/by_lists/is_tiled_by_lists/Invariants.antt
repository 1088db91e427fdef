use Rattle.kept.proofs.Keeping.{Tiles}
use Rattle.kept.specs.Kept.{listed, kept_by_lists}
use Prim.Native.Nat.{◌-◌}
use Rattle.kept.proofs.by_lists.is_tiled_by_lists.Given as goal

abbrev pub invariant-loop-done : goal.invariant-loop-done
invariant-loop-done l = Tiles (kept_by_lists (listed l.lists) l.id l.z) l.done

abbrev pub decreases-loop-done : goal.decreases-loop-done
decreases-loop-done l = l.total - l.done
