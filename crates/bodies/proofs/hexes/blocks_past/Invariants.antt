use Rattle.bodies.proofs.Partly.{Partial}
use lib.ListN.{length}
use Prim.Native.Nat.{◌-◌}
use Rattle.bodies.proofs.hexes.blocks_past.Given as goal

abbrev pub invariant-loop-x : goal.invariant-loop-x
invariant-loop-x l = Partial l.s l.at l.n l.c l.tail l.left

abbrev pub decreases-loop-x : goal.decreases-loop-x
decreases-loop-x l = length l.s - l.c
