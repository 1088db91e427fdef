-- `mild_in` looks at the parts of a coordinate one behind the other. Assumes nothing.
use Rattle.coordinates.proofs.Mildly.{mild_long, front_fits, back_fits, point_inside, end_inside, mild_none, mild_many, mild_found}
use native.Mathlib.Omega.{arith}
use Rattle.coordinates.proofs.mild.mild_in.Goals.{then-digits-lt1-via-then-digits-lt1, then-digits-lt1-via-else-digits-lt1+then-most-digits}
use Rattle.coordinates.proofs.mild.mild_in.Goals as goal

-- too many bytes
pub returns-then-w-gt-COORDINATE_BYTES : goal.returns-then-w-gt-COORDINATE_BYTES
returns-then-w-gt-COORDINATE_BYTES c = mild_long _ c.if-w-gt-COORDINATE_BYTES.true

pub overflow_sub-front : goal.overflow_sub-front
overflow_sub-front c =
    front_fits c.args.w.now c.if-w-gt-COORDINATE_BYTES.false _ c.sign_at-s.ensures
    _ c.digits_behind-point.ensures _ c.point_behind-behind.ensures _ c.run_behind-end.ensures

pub overflow_sub-back : goal.overflow_sub-back
overflow_sub-back c =
    back_fits c.args.w.now c.if-w-gt-COORDINATE_BYTES.false _ c.sign_at-s.ensures
    _ c.digits_behind-point.ensures _ c.point_behind-behind.ensures _ c.run_behind-end.ensures

pub overflow_add-digits : goal.overflow_add-digits
overflow_add-digits c =
    omega (
      arith,
      point_inside c.args.w.now c.if-w-gt-COORDINATE_BYTES.false _ c.sign_at-s.ensures
          _ c.digits_behind-point.ensures _ c.point_behind-behind.ensures _ c.run_behind-end.ensures,
      end_inside c.args.w.now c.if-w-gt-COORDINATE_BYTES.false _ c.sign_at-s.ensures
          _ c.digits_behind-point.ensures _ c.point_behind-behind.ensures _ c.run_behind-end.ensures,
    )

-- no digit, or too many
pub returns-then-digits-lt1 : goal.returns-then-digits-lt1
returns-then-digits-lt1 c =
    elim c.then-digits-lt1.branch [
      | then-digits-lt1-via-then-digits-lt1 r ↦
          mild_none c.args.w.now c.if-w-gt-COORDINATE_BYTES.false _ c.sign_at-s.ensures
          _ c.digits_behind-point.ensures _ c.point_behind-behind.ensures _ c.run_behind-end.ensures r.if-digits-lt1.true
      | then-digits-lt1-via-else-digits-lt1+then-most-digits r ↦
          mild_many c.args.w.now c.if-w-gt-COORDINATE_BYTES.false _ c.sign_at-s.ensures
          _ c.digits_behind-point.ensures _ c.point_behind-behind.ensures _ c.run_behind-end.ensures r.if-most-digits.true
    ]

pub power_behind-requires : goal.power_behind-requires
power_behind-requires c =
    end_inside c.args.w.now c.if-w-gt-COORDINATE_BYTES.false _ c.sign_at-s.ensures
    _ c.digits_behind-point.ensures _ c.point_behind-behind.ensures _ c.run_behind-end.ensures

-- what the power says
pub returns : goal.returns
returns c =
    mild_found c.args.w.now c.if-w-gt-COORDINATE_BYTES.false _ c.sign_at-s.ensures
    _ c.digits_behind-point.ensures _ c.point_behind-behind.ensures _ c.run_behind-end.ensures c.if-digits-lt1.false c.if-most-digits.false _ c.power_behind.ensures
