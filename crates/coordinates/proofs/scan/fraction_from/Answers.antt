-- `fraction_from` reads the digits behind a point, where one stands. Assumes nothing.
use mathlib.Core.Path.{sym, ◌∙◌}
use Rattle.coordinates.proofs.Places.{point_fair, point_scanned, plain_scanned}
use Rattle.coordinates.proofs.scan.fraction_from.Goals as goal

pub many_from-requires : goal.many_from-requires
many_from-requires c = point_fair c.args.w.now c.args.x c.requires (sym c.stands_at.ensures ∙ c.if-stands_at.true)

-- a point
pub returns-then-stands_at : goal.returns-then-stands_at
returns-then-stands_at c = point_scanned c.args.w.now c.args.x c.requires (sym c.stands_at.ensures ∙ c.if-stands_at.true) _ c.many_from.ensures

-- no point
pub returns : goal.returns
returns c = plain_scanned c.args.w.now c.args.x c.requires (sym c.stands_at.ensures ∙ c.if-stands_at.false)
