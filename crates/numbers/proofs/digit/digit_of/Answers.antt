-- `digit_of` answers the digit's value. Assumes nothing.
use mathlib.Core.Path.{sym, ◌∙◌}
use Rattle.digits.specs.Digits.{digit_of}
use Rattle.digits.proofs.Digits.{within_is}
use native.Mathlib.Omega.{arith}
use Rattle.numbers.proofs.digit.digit_of.Goals as goal

pub overflow_sub-result : goal.overflow_sub-result
overflow_sub-result c = omega (arith, within_is 48 57 c.args.b (sym c.is_within.ensures ∙ c.if-is_within.true))

-- `0` to `9`
pub returns-then-is_within : goal.returns-then-is_within
unfolding digit_of
returns-then-is_within c = rw (sym c.is_within.ensures ∙ c.if-is_within.true, digit_of)

pub overflow_sub-result-then-is_within-2 : goal.overflow_sub-result-then-is_within-2
overflow_sub-result-then-is_within-2 c = omega (arith, within_is 65 70 c.args.b (sym c.is_within-2.ensures ∙ c.if-is_within-2.true))

-- `A` to `F`
pub returns-then-is_within-2 : goal.returns-then-is_within-2
unfolding digit_of
returns-then-is_within-2 c = rw (sym c.is_within.ensures ∙ c.if-is_within.false, sym c.is_within-2.ensures ∙ c.if-is_within-2.true, digit_of)

pub overflow_sub-result-then-is_within-3 : goal.overflow_sub-result-then-is_within-3
overflow_sub-result-then-is_within-3 c = omega (arith, within_is 97 102 c.args.b (sym c.is_within-3.ensures ∙ c.if-is_within-3.true))

-- `a` to `f`
pub returns-then-is_within-3 : goal.returns-then-is_within-3
unfolding digit_of
returns-then-is_within-3 c =
    rw (
      sym c.is_within.ensures ∙ c.if-is_within.false,
      sym c.is_within-2.ensures ∙ c.if-is_within-2.false,
      sym c.is_within-3.ensures ∙ c.if-is_within-3.true,
      digit_of,
    )

-- no digit
pub returns : goal.returns
unfolding digit_of
returns c =
    rw (
      sym c.is_within.ensures ∙ c.if-is_within.false,
      sym c.is_within-2.ensures ∙ c.if-is_within-2.false,
      sym c.is_within-3.ensures ∙ c.if-is_within-3.false,
      digit_of,
    )
