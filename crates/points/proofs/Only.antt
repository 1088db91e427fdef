-- No second answer of a public function, and no second content of what is lent to it, meets its contract. Assumes nothing.
use mathlib.Core.Path.{refl, sym, ◌∙◌}
use Rattle.facts.specs.Only.{Only}
use Rattle.facts.specs.OnlyLeft.{OnlyLeft}
use Rattle.points.specs.Points.{Both}
use Rattle.points.proofs.body.coordinates_in.Reads as coordinates_in_lem
use Rattle.points.proofs.body.put_points.Reads as put-points

pub coordinates_in_only : Only coordinates_in_lem.Post
coordinates_in_only κ a r r' x x' p q = p ∙ sym q

pub put_points_only : OnlyLeft {L = Both} (λ κ x. record { mantissas = x.1.1.1.1.0.now; exponents = x.1.1.1.1.1.0.now }) put-points.Post
put_points_only κ a r r' x x' p q = (refl, p ∙ sym q)
