-- `coordinates::lead` answers the coordinate at the start of the bytes, and where it stops. Assumes nothing.
use Rattle.coordinates.proofs.Words.{back_ready}
use Rattle.coordinates.proofs.Leading.{long_lead, lead_mild, lead_none, lead_found}
use Rattle.coordinates.proofs.leads.lead.Goals as goal

-- over 64 bytes
pub returns-then-w-gt-COORDINATE_BYTES : goal.returns-then-w-gt-COORDINATE_BYTES
returns-then-w-gt-COORDINATE_BYTES c = long_lead _ c.if-w-gt-COORDINATE_BYTES.true

-- no digit
pub returns-then-digits-eq0 : goal.returns-then-digits-eq0
returns-then-digits-eq0 c =
    lead_none _ c.if-w-gt-COORDINATE_BYTES.false _ c.sign_at-s.ensures _ (rw c.none_at.ensures at c.digits_from-front.ensures) _ c.fraction_from-back.ensures
    _ c.power_lead-p.ensures c.if-digits-eq0.true

pub finish_by-value-requires : goal.finish_by-value-requires
finish_by-value-requires c = (
  back_ready _ c.if-w-gt-COORDINATE_BYTES.false _ c.sign_at-s.ensures _ (rw c.none_at.ensures at c.digits_from-front.ensures) _ c.fraction_from-back.ensures,
  lead_mild _ _ _ c.power_lead-p.ensures,
)

-- digits, and what stands behind them
pub returns : goal.returns
returns c =
    lead_found _ c.if-w-gt-COORDINATE_BYTES.false _ c.sign_at-s.ensures _ (rw c.none_at.ensures at c.digits_from-front.ensures) _ c.fraction_from-back.ensures
    _ c.power_lead-p.ensures c.if-digits-eq0.false _ c.finish_by-value.ensures
