use Rattle.lines.proofs.Writing.{wrote_within}
use Rattle.lines.proofs.Listing.{fault_short, fault_long}
use Rattle.lines.proofs.listed.put_fault.Goals as goal

-- src/listed.rt:64:9
pub put_last-requires : goal.put_last-requires
put_last-requires c = wrote_within _ _ _ _ _ c.put_decimal-c.ensures

-- src/listed.rt:64:9
pub returns-then-bytes-eq0 : goal.returns-then-bytes-eq0
returns-then-bytes-eq0 c = let a = c.args in fault_short _ _ a.f _ _ c.put_decimal-c.ensures _ c.extra_bytes-bytes.ensures c.if-bytes-eq0.true _ _ c.put_last.ensures

-- src/listed.rt:66:5
pub put_two-requires : goal.put_two-requires
put_two-requires c = wrote_within _ _ _ _ _ c.put_decimal-c.ensures

-- src/listed.rt:54:1
pub returns : goal.returns
returns c = let a = c.args in fault_long _ _ a.f _ _ c.put_decimal-c.ensures _ c.extra_bytes-bytes.ensures c.if-bytes-eq0.false _ _ c.put_two.ensures
