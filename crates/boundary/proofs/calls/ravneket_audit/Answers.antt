use Rattle.audit.specs.Audit.{out, values_of}
use Rattle.boundary.proofs.Kept.{kept_of_lem}
use Rattle.boundary.proofs.calls.ravneket_audit.Goals as goal

-- src/calls.rt:38:1
pub returns : goal.returns
returns c = kept_of_lem _ _ _ c.args.answer.now (out (values_of c.audit-audited.result) _ _) c.audit-audited.ensures _ _ c.answer_audit.ensures
