use Rattle.filling.proofs.Topped.{top_no, top_read}
use Rattle.filling.proofs.tops.top_at.Goals as goal

pub returns-in-Ok : goal.returns-in-Ok
returns-in-Ok c = top_read _ _ c.head_at.ensures c.args.kind _ _ c.in-Ok.is c.zone_of.ensures

pub returns-in-Err : goal.returns-in-Err
returns-in-Err c = top_no _ _ c.head_at.ensures c.args.kind _ _ c.in-Err.is
