use lib.ListN.{length}
use Rattle.tokens.specs.Listed.{tokens_from}
use Rattle.points.specs.Points.{points_taken, coordinates_in}
use Rattle.points.proofs.Pointed.{pairs_out}
use native.Mathlib.Omega.{arith}
use Rattle.points.proofs.body.put_points.Goals as goal

pub returns-else-k-room : goal.returns-else-k-room
returns-else-k-room c =
    let a = c.args in
    let r = c.max-room.ensures in
    pairs_out (points_taken (length a.s.now) (coordinates_in a.dim) a.n (tokens_from a.s.now a.at)) a.mantissas.now a.exponents.now a.k (omega (arith, r, c.if-k-room.false)) (omega (arith, r, c.if-k-room.false))
