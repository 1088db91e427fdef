-- `tokens::class_of` meets its contract, test by test. Assumes nothing.
use mathlib.Core.Path.{sym, ◌∙◌}
use borrow.Author.Tests.{ne_eqb}
use Rattle.tokens.specs.Tokens.{class_of}
use Rattle.tokens.proofs.class_of.Goals as goal

-- a blank
pub returns-then-is_blank : goal.returns-then-is_blank
unfolding class_of
returns-then-is_blank c = rw (sym c.is_blank.ensures ∙ c.if-is_blank.true, class_of)

-- `(`
pub returns-then-b-eq40 : goal.returns-then-b-eq40
unfolding class_of
returns-then-b-eq40 c = rw c.if-b-eq40.true

-- `)`
pub returns-then-b-eq41 : goal.returns-then-b-eq41
unfolding class_of
returns-then-b-eq41 c = rw c.if-b-eq41.true

-- a quote
pub returns-then-b-eq34 : goal.returns-then-b-eq34
unfolding class_of
returns-then-b-eq34 c = rw c.if-b-eq34.true

-- a word's byte
pub returns : goal.returns
unfolding class_of
returns c =
    rw (sym c.is_blank.ensures ∙ c.if-is_blank.false, class_of)
    (simp (ne_eqb _ _ c.if-b-eq40.false, ne_eqb _ _ c.if-b-eq41.false, ne_eqb _ _ c.if-b-eq34.false))
