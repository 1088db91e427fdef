use Rattle.report.proofs.Printing.{part_fits}
use mathlib.Core.Path.{refl}
use Rattle.audit.specs.Audit.{tables}
use Rattle.mesh.specs.Rows.{places}
use Rattle.report.proofs.Printing.{bytes_listed, part_long, clean_refused, clean_done, faulty_done}
use Rattle.report.proofs.printed.put_audit.Goals as goal

-- src/printed.rt:100:39
pub slice_bounds-list-end : goal.slice_bounds-list-end
slice_bounds-list-end c =
    let a = c.args in part_fits _ c.audit-a.new.list (bytes_listed _ _ _ _ c.audit-a.ensures places (tables a.dim a.nodes a.faces a.cells a.face_rows.now a.cell_rows.now) _ refl _ _ c.in-Ok.is) c.audit-a.auto.list

-- src/printed.rt:100:39
pub slice_bounds-put_total-end : goal.slice_bounds-put_total-end
slice_bounds-put_total-end c =
    let a = c.args in part_long _ _ (bytes_listed _ _ _ _ c.audit-a.ensures places (tables a.dim a.nodes a.faces a.cells a.face_rows.now a.cell_rows.now) _ refl _ _ c.in-Ok.is) c.audit-a.auto.list

-- src/printed.rt:71:1
pub returns-in-Err : goal.returns-in-Err
returns-in-Err c = clean_refused _ _ _ _ c.audit-a.ensures _ _ _ _ _ _ _ c.in-Err.is c.put_clean.ensures

-- src/printed.rt:71:1
pub returns-then-is_clean : goal.returns-then-is_clean
returns-then-is_clean c = clean_done _ _ _ _ c.audit-a.ensures _ _ _ _ _ _ _ _ c.in-Ok.is c.if-is_clean.true c.put_clean-then-is_clean.ensures

-- src/printed.rt:71:1
pub returns-else-is_clean : goal.returns-else-is_clean
returns-else-is_clean c = faulty_done _ _ _ _ c.audit-a.ensures _ _ _ _ _ _ _ _ c.in-Ok.is c.if-is_clean.false c.put_total.ensures
