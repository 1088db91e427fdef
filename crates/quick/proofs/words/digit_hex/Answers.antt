use mathlib.Core.Path.{sym, ◌∙◌}
use Rattle.quick.proofs.Figures.{digit_short, digit_solid, digit_on, digit_is}
use native.Mathlib.Omega.{arith}
use Rattle.quick.proofs.words.digit_hex.Goals as goal

-- src/words.rt:134:9
pub returns-then-size-lt-DIGIT_BYTES : goal.returns-then-size-lt-DIGIT_BYTES
returns-then-size-lt-DIGIT_BYTES c = digit_short _ _ (omega (arith, c.if-size-lt-DIGIT_BYTES.true))

-- src/words.rt:138:9
pub returns-then-last-at : goal.returns-then-last-at
returns-then-last-at c = digit_short _ _ (omega (arith, c.if-last-at.true, c.if-size-lt-DIGIT_BYTES.false))

-- src/words.rt:146:13
pub returns-then-ends : goal.returns-then-ends
returns-then-ends c =
    digit_is _ _ (omega (arith, c.if-last-at.false, c.if-size-lt-DIGIT_BYTES.false)) (sym c.is_blank-blank.ensures ∙ c.if-blank.true) (sym c.ends_word-ends.ensures ∙ c.if-ends.true) _ c.figure_of.ensures

-- src/words.rt:148:9
pub returns-then-blank : goal.returns-then-blank
returns-then-blank c =
    digit_on _ _ (omega (arith, c.if-last-at.false, c.if-size-lt-DIGIT_BYTES.false)) (sym c.is_blank-blank.ensures ∙ c.if-blank.true) (sym c.ends_word-ends.ensures ∙ c.if-ends.false)

-- src/words.rt:129:1
pub returns : goal.returns
returns c = digit_solid _ _ (omega (arith, c.if-last-at.false, c.if-size-lt-DIGIT_BYTES.false)) (sym c.is_blank-blank.ensures ∙ c.if-blank.false)
