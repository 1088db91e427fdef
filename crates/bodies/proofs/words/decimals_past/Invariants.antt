use lib.ListN.{length}
use Rattle.bodies.specs.Bodies.{pair_unit}
use Rattle.bodies.proofs.words.decimals_past.Given as goal

abbrev pub ghost-each_past : goal.ghost-each_past
ghost-each_past a = pair_unit (length a.s.now)
