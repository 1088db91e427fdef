use Rattle.spots.specs.Heads.{kind_for, fifth_for}
use Rattle.bodies.proofs.Shapes.{body_rows, body_bare, body_never}
use Rattle.bodies.proofs.bodies.body_at.Goals as goal

pub returns-in-Rows : goal.returns-in-Rows
returns-in-Rows c =
    body_rows _ _ (kind_for c.args.kind) c.args.d c.args.n (fifth_for c.args.fifth) c.shape_of.ensures _ c.in-Rows.is c.enclosed_past.ensures

pub returns-in-Bare : goal.returns-in-Bare
returns-in-Bare c = body_bare _ _ (kind_for c.args.kind) c.args.d c.args.n (fifth_for c.args.fifth) c.shape_of.ensures c.in-Bare.is

pub returns-in-Never : goal.returns-in-Never
returns-in-Never c = body_never _ _ (kind_for c.args.kind) c.args.d c.args.n (fifth_for c.args.fifth) c.shape_of.ensures c.in-Never.is
