use Rattle.bodies.proofs.Flatly.{facings_flat, points_flat}
use Rattle.bodies.proofs.Loose.{loose_is}
use Rattle.bodies.proofs.rows.rows_past.Goals as goal

pub returns-in-Facing : goal.returns-in-Facing
returns-in-Facing c = rw c.in-Facing.is (loose_is _ _ (facings_flat _ _ c.args.n _) c.hexes_past.ensures)

pub returns-in-Point : goal.returns-in-Point
returns-in-Point c = rw c.in-Point.is (loose_is _ _ (points_flat _ _ c.args.n _) c.decimals_past.ensures)
