use mathlib.Core.Path.{refl}
use Rattle.points.specs.Points.{seen}
use Rattle.points.proofs.Pointed.{point_put}
use Rattle.points.proofs.body.put_point.Goals as goal

pub returns-clause-rows : goal.returns-clause-rows
returns-clause-rows c = let a = c.args in point_put _ _ a.d a.k _ _ (seen a.lent.now) _ _ c.requires.0 refl c.put_pairs-c.ensures.rows c.put_origins.ensures.rows
