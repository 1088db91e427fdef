-- No second answer of the exported calls, and no second content of what is lent, meets their contracts. Assumes nothing.
use mathlib.Core.Path.{sym, ap, ◌∙◌}
use mathlib.Core.List.{List}
use Prim.Native.Nat.{ℕ}
use Rattle.facts.specs.OnlyLeft.{OnlyLeft}
use Rattle.filling.specs.Found.{Tables}
use Rattle.boundary.specs.Flat.{Left, Kept, Written}
use Rattle.boundary.proofs.calls.ravneket_read.Reads as read
use Rattle.boundary.proofs.calls.ravneket_audit.Reads as audit
use Rattle.boundary.proofs.calls.ravneket_write.Reads as write
use Rattle.boundary.proofs.calls.ravneket_report.Reads as report

pub read_only : OnlyLeft {L = Tables × List ℕ × List ℕ}
    (λ κ x. (record { mantissas = x.1.0.now; exponents = x.1.1.0.now; faces = x.1.1.1.0.now; cells = x.1.1.1.1.0.now }, x.1.1.1.1.1.0.now, x.1.1.1.1.1.1.0.now)) read.Post
read_only κ a r r' x x' p q =
    let e = p ∙ sym q in (ap (λ (y : Left). y.number) e, ap (λ (y : Left). (y.held, y.zones, y.answer)) e)

pub audit_only : OnlyLeft {L = List ℕ × List ℕ × List ℕ}
    (λ κ x. (x.1.1.1.1.1.1.0.now, x.1.1.1.1.1.1.1.0.now, x.1.1.1.1.1.1.1.1.0.now)) audit.Post
audit_only κ a r r' x x' p q =
    let e = p ∙ sym q in (ap (λ (y : Kept). y.number) e, ap (λ (y : Kept). (y.counts, y.list, y.answer)) e)

pub write_only : OnlyLeft {L = List ℕ × List ℕ} (λ κ x. (x.1.1.1.1.1.1.1.1.1.0.now, x.1.1.1.1.1.1.1.1.1.1.0.now)) write.Post
write_only κ a r r' x x' p q = let e = p ∙ sym q in (ap (λ (y : Written). y.number) e, ap (λ (y : Written). (y.text, y.answer)) e)

pub report_only : OnlyLeft (λ κ x. x.1.0.now) report.Post
report_only κ a r r' x x' p q = (p.place ∙ sym q.place, p.laid ∙ sym q.laid)
