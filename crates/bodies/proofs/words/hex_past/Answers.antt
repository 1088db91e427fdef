use mathlib.Core.Path.{refl}
use Rattle.std.proofs.lemmas.Result.{err_from_is_err_and}
use Rattle.steps.proofs.Quickly.{quick_number}
use Rattle.bodies.proofs.Forgotten.{drop_no, drop_to}
use Rattle.bodies.proofs.Loose.{loose_is, hex_is}
use Rattle.bodies.proofs.words.hex_past.Goals as goal

-- found by its bytes
pub returns-in-Some : goal.returns-in-Some
returns-in-Some c = loose_is _ _ (hex_is _ _) (drop_to _ _ (quick_number _ _ _ c.quick_hex.ensures _ _ c.in-Some.is) _ refl)

pub returns-in_err-word : goal.returns-in_err-word
returns-in_err-word c =
    let p = err_from_is_err_and c.from_residual.result c.from_residual.ensures.1 in
    rw (p.1, p.2) (loose_is _ _ (hex_is _ _) (drop_no _ _ c.number_at.ensures _ c.in_err-word.was))

pub returns : goal.returns
returns c = loose_is _ _ (hex_is _ _) (drop_to _ _ c.number_at.ensures _ c.in_ok-word.was)
