-- `whole_of` reads 1 to `most` digits to the base. Its loop keeps the digits read and those that are left as the whole word. Assumes nothing.
use mathlib.Core.Path.{refl, ◌∙◌}
use lib.Dec.{lit<}
use native.Mathlib.Nat.{pow-zero}
use mir.ValLaws.{Fits-le}
use Rattle.numbers.proofs.Places.{digits_in_more}
use Rattle.numbers.proofs.Bases.{whole_short, whole_long, whole_stop, whole_end, fits, grows}
use borrow.Author.Rules.{rules}
use native.Mathlib.Omega.{arith}
use Rattle.numbers.proofs.whole.whole_of.Goals as goal

-- no digit at all
pub returns-then-is_empty : goal.returns-then-is_empty
returns-then-is_empty c = whole_short _ _ _ (search rules)

-- too many bytes
pub returns-then-most-w : goal.returns-then-most-w
returns-then-most-w c = whole_long _ _ _ (search rules)

pub loop-b-init : goal.loop-b-init
loop-b-init c = (search rules, rw pow-zero (lit< tt), refl)

pub overflow_add-v : goal.overflow_add-v
overflow_add-v c =
    let a = c.args in
    omega (
      arith,
      fits a.base a.most c.loop-b.v c.digit_of-d.result c.loop-b.b-index c.requires.0 c.requires.1 (search rules) (search rules) (search rules),
    )

pub overflow_mul-v : goal.overflow_mul-v
overflow_mul-v c = Fits-le (omega arith) (overflow_add-v c)

pub loop-b-preserved : goal.loop-b-preserved
loop-b-preserved c =
    let a = c.args in (
      search rules,
      grows a.base a.most c.loop-b.v c.digit_of-d.result c.loop-b.b-index c.requires.0 c.requires.1 (search rules) (search rules),
      digits_in_more a.w.now c.loop-b.b-index a.base c.loop-b.v c.loop-b.b-index _ (search rules) c.digit_of-d.ensures (search rules)
          ∙ c.loop-b.invariant.2,
    )

-- a byte that is no digit
pub returns-then-base-d : goal.returns-then-base-d
returns-then-base-d c =
    let a = c.args in
    whole_stop a.base a.most a.w.now c.loop-b.v c.loop-b.b-index c.loop-b.invariant.2
    _ (search rules) c.digit_of-d.ensures (search rules)

-- the word is at its end
pub returns : goal.returns
returns c =
    let a = c.args in
    whole_end a.base a.most a.w.now c.loop-b.v c.loop-b.b-index c.loop-b.invariant.2 (search rules) (search rules) (search rules)
