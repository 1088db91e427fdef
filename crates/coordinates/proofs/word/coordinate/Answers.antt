-- `coordinates::coordinate` answers what the whole word says. Assumes nothing.
use Rattle.coordinates.proofs.Kept.{mild}
use Rattle.decimals.proofs.Readings.{long_not}
use Rattle.coordinates.proofs.Words.{back_ready, none_is, found_is}
use Rattle.coordinates.proofs.word.coordinate.Goals as goal

-- over 64 bytes
pub returns-then-w-gt-COORDINATE_BYTES : goal.returns-then-w-gt-COORDINATE_BYTES
returns-then-w-gt-COORDINATE_BYTES c = long_not _ c.if-w-gt-COORDINATE_BYTES.true

-- no digit
pub returns-then-digits-eq0 : goal.returns-then-digits-eq0
returns-then-digits-eq0 c =
    none_is _ c.if-w-gt-COORDINATE_BYTES.false _ c.sign_at-s.ensures _ (rw c.none_at.ensures at c.digits_from-front.ensures) _ c.fraction_from-back.ensures c.if-digits-eq0.true

pub finish_by-requires : goal.finish_by-requires
finish_by-requires c = (
  back_ready _ c.if-w-gt-COORDINATE_BYTES.false _ c.sign_at-s.ensures _ (rw c.none_at.ensures at c.digits_from-front.ensures) _ c.fraction_from-back.ensures,
  rw c.power_at-p.ensures (mild _),
)

-- digits, and what stands behind them
pub returns : goal.returns
returns c =
    found_is _ c.if-w-gt-COORDINATE_BYTES.false _ c.sign_at-s.ensures _ (rw c.none_at.ensures at c.digits_from-front.ensures) _ c.fraction_from-back.ensures
    c.if-digits-eq0.false _ c.power_at-p.ensures _ c.finish_by.ensures
