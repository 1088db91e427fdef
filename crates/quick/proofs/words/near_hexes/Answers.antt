use mathlib.Core.Path.{sym, ◌∙◌}
use Rattle.quick.proofs.Near.{from_whole, near_short, near_solid, near_blank, near_other}
use native.Mathlib.Omega.{arith}
use Rattle.quick.proofs.words.near_hexes.Goals as goal

-- src/words.rt:67:9
pub returns-then-size-lt-NEAR_BYTES : goal.returns-then-size-lt-NEAR_BYTES
returns-then-size-lt-NEAR_BYTES c = near_short _ _ (omega (arith, c.if-size-lt-NEAR_BYTES.true))

-- src/words.rt:71:9
pub returns-then-last-at : goal.returns-then-last-at
returns-then-last-at c = near_short _ _ (omega (arith, c.if-last-at.true, c.if-size-lt-NEAR_BYTES.false))

-- src/words.rt:84:13
pub returns-then-guess-count : goal.returns-then-guess-count
returns-then-guess-count c =
    near_blank _ _ (omega (arith, c.if-last-at.false, c.if-size-lt-NEAR_BYTES.false)) (sym c.is_blank-blank.ensures ∙ c.if-blank.true)
    _ _ c.bytes_at-x.ensures c.end_in-guess.ensures _ (from_whole _ _ _ c.hexes_in-h.ensures) c.if-guess-count.true

-- src/words.rt:89:9
pub returns-then-blank : goal.returns-then-blank
returns-then-blank c =
    near_other _ _ (omega (arith, c.if-last-at.false, c.if-size-lt-NEAR_BYTES.false)) (sym c.is_blank-blank.ensures ∙ c.if-blank.true)
    _ _ c.bytes_at-x.ensures c.end_in-guess.ensures _ (from_whole _ _ _ c.hexes_in-h.ensures) c.if-guess-count.false

-- src/words.rt:62:1
pub returns : goal.returns
returns c = near_solid _ _ (omega (arith, c.if-last-at.false, c.if-size-lt-NEAR_BYTES.false)) (sym c.is_blank-blank.ensures ∙ c.if-blank.false)
