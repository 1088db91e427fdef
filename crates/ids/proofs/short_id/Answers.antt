use mathlib.Core.Path.{sym, ◌∙◌}
use Rattle.ids.proofs.Figured.{one_small, one_inside, two_small, two_inside, id_one, id_two}
use native.Mathlib.Omega.{arith}
use Rattle.ids.proofs.short_id.Goals as goal

pub overflow_add-one : goal.overflow_add-one
overflow_add-one c = omega (arith, one_inside _ _ _ (sym c.figure_at.ensures ∙ c.in_ok-first.was))

-- one digit
pub returns-then-ends_word : goal.returns-then-ends_word
returns-then-ends_word c = id_one _ _ _ (sym c.figure_at.ensures ∙ c.in_ok-first.was) (sym c.ends_word.ensures ∙ c.if-ends_word.true)

pub overflow_add-two : goal.overflow_add-two
overflow_add-two c = omega (arith, two_inside _ _ _ (sym c.figure_at.ensures ∙ c.in_ok-first.was) _ (sym c.figure_at-2.ensures ∙ c.in_ok-second.was))

pub overflow_mul-id : goal.overflow_mul-id
overflow_mul-id c = omega (arith, one_small _ _ _ (sym c.figure_at.ensures ∙ c.in_ok-first.was))

pub overflow_add-id : goal.overflow_add-id
overflow_add-id c =
    omega (
      arith,
      one_small _ _ _ (sym c.figure_at.ensures ∙ c.in_ok-first.was),
      two_small _ _ _ (sym c.figure_at.ensures ∙ c.in_ok-first.was) _ (sym c.figure_at-2.ensures ∙ c.in_ok-second.was),
    )

-- two
pub returns-then-ends_word-2 : goal.returns-then-ends_word-2
returns-then-ends_word-2 c =
    id_two _ _ _ (sym c.figure_at.ensures ∙ c.in_ok-first.was) _ (sym c.figure_at-2.ensures ∙ c.in_ok-second.was) (sym c.ends_word-2.ensures ∙ c.if-ends_word-2.true)
