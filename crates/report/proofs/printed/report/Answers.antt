use Rattle.report.proofs.Printing.{reported_refused, reported_accepted}
use Rattle.report.proofs.printed.report.Goals as goal

-- src/printed.rt:107:1
pub returns-in-Err : goal.returns-in-Err
returns-in-Err c =
    let a = c.args in reported_refused a.text.now (record { found = c.read_flat-found.result; held = _ }) c.read_flat-found.ensures _ _ _ _ _ _ c.in-Err.is c.put_refusal.ensures

-- src/printed.rt:107:1
pub returns-in-Ok : goal.returns-in-Ok
returns-in-Ok c =
    let a = c.args in reported_accepted a.text.now (record { found = c.read_flat-found.result; held = _ }) c.read_flat-found.ensures _ _ _ _ _ _ _ _ c.in-Ok.is c.put_audit.ensures
