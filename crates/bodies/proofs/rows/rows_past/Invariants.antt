use lib.ListN.{length}
use Rattle.bodies.specs.declared.rows.Row.{Row}
use Rattle.bodies.specs.Bodies.{row_unit}
use Rattle.bodies.proofs.rows.rows_past.Given as goal

abbrev pub ghost-each_past : goal.ghost-each_past
ghost-each_past a = row_unit (length a.s.now) Row.Element

abbrev pub ghost-each_past-2 : goal.ghost-each_past-2
ghost-each_past-2 a = row_unit (length a.s.now) Row.Mixed
