use borrow.Author.Rules.{rules}
use lib.Dec.{leb}
use mathlib.Core.Bool.{◌&&◌}
use mathlib.Core.Path.{◌≡◌, refl}
use Rattle.std.proofs.lemmas.Result.{err_from_is_err_and}
use Rattle.steps.proofs.Single.{digit_number}
use Rattle.bodies.proofs.Loose.{loose_is, read_no, read_to, listed_in, mixed_is}
use Rattle.bodies.proofs.rows.mixed_past.Goals as goal

pub returns-then-contains : goal.returns-then-contains
returns-then-contains c =
    let v = c.in-Some.digit.value in
    let e : c.contains.result ≡ (leb 2 v && leb v 4) = search rules in
    loose_is _ _ (mixed_is _ _) (read_to _ _ _ (listed_in _ _ 2 4 (digit_number _ _ _ c.digit_hex.ensures _ _ c.in-Some.is) _ refl _ e c.if-contains.true) _ refl _ c.facing_past.ensures)

pub returns-in_err-count : goal.returns-in_err-count
returns-in_err-count c =
    let p = err_from_is_err_and c.from_residual.result c.from_residual.ensures.1 in
    rw (p.1, p.2) (loose_is _ _ (mixed_is _ _) (read_no _ _ _ c.listed_at.ensures _ c.in_err-count.was))

pub returns : goal.returns
returns c = loose_is _ _ (mixed_is _ _) (read_to _ _ _ c.listed_at.ensures _ c.in_ok-count.was _ c.facing_past-2.ensures)
