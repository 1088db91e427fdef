use lib.ListN.{length}
use Rattle.bodies.specs.Bodies.{hex_unit}
use Rattle.bodies.proofs.words.hexes_each.Given as goal

abbrev pub ghost-each_past : goal.ghost-each_past
ghost-each_past a = hex_unit (length a.s.now)
