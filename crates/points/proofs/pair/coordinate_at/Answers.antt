use Rattle.points.proofs.Pointed.{took_err, took_ok}
use Rattle.points.proofs.pair.coordinate_at.Goals as goal

pub returns-in-Ok : goal.returns-in-Ok
returns-in-Ok c = took_ok _ _ c.pair_at.ensures _ c.in-Ok.is

pub returns-in-Err : goal.returns-in-Err
returns-in-Err c = took_err _ _ c.pair_at.ensures _ c.in-Err.is
