use Rattle.kept.proofs.Keeping.{Tiles}
use Rattle.kept.specs.Kept.{kept_of}
use Prim.Native.Nat.{◌-◌}
use Rattle.kept.proofs.is_tiled.Given as goal

abbrev pub invariant-loop-done : goal.invariant-loop-done
invariant-loop-done l = Tiles (kept_of l.kept l.id l.z) l.done

abbrev pub decreases-loop-done : goal.decreases-loop-done
decreases-loop-done l = l.total - l.done
