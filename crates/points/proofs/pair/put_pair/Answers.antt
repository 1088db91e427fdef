use Rattle.points.specs.Points.{seen}
use Rattle.points.proofs.Pointed.{pair_put}
use Rattle.points.proofs.pair.put_pair.Goals as goal

pub returns-clause-rows : goal.returns-clause-rows
returns-clause-rows c = let a = c.args in pair_put a.s.now _ c.coordinate_at-c.result a.k (seen a.lent.now) c.coordinate_at-c.ensures c.put.ensures.rows
