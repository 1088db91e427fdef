use borrow.Author.Rules.{rules}
use lib.Dec.{leb}
use mathlib.Core.Bool.{◌&&◌}
use mathlib.Core.Path.{◌≡◌, refl}
use Rattle.std.proofs.lemmas.Result.{err_from_is_err_and}
use Rattle.steps.proofs.Single.{digit_number}
use Rattle.bodies.proofs.Forgotten.{drop_no, drop_to}
use Rattle.bodies.proofs.Loose.{loose_is, listed_in, element_is}
use Rattle.bodies.proofs.rows.element_past.Goals as goal

pub returns-then-contains : goal.returns-then-contains
returns-then-contains c =
    let v = c.in-Some.digit.value in
    let e : c.contains.result ≡ (leb 1 v && leb v 6) = search rules in
    loose_is _ _ (element_is _ _) (drop_to _ _ (listed_in _ _ 1 6 (digit_number _ _ _ c.digit_hex.ensures _ _ c.in-Some.is) _ refl _ e c.if-contains.true) _ refl)

pub returns-in_err-word : goal.returns-in_err-word
returns-in_err-word c =
    let p = err_from_is_err_and c.from_residual.result c.from_residual.ensures.1 in
    rw (p.1, p.2) (loose_is _ _ (element_is _ _) (drop_no _ _ c.listed_at.ensures _ c.in_err-word.was))

pub returns : goal.returns
returns c = loose_is _ _ (element_is _ _) (drop_to _ _ c.listed_at.ensures _ c.in_ok-word.was)
