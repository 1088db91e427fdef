use Prim.Native.Nat.{◌-◌}
use Rattle.bodies.proofs.Forgotten.{Going}
use Rattle.bodies.proofs.words.each_past.Given as goal

abbrev pub invariant-loop : goal.invariant-loop
invariant-loop g l = Going l.s g.unit l.at l.n l.c (l.n - l.counter)
