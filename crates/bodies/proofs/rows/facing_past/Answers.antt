use Rattle.bodies.proofs.Flatly.{facing_words}
use Rattle.bodies.proofs.Loose.{loose_is}
use Rattle.bodies.proofs.rows.facing_past.Goals as goal

pub returns : goal.returns
returns c = loose_is _ _ (facing_words _ c.args.n _) c.hexes_each.ensures
