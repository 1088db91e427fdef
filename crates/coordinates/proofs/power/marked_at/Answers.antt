-- `marked_at` reads the power behind the `e`. Assumes nothing.
use lib.Dec.{lit<}
use mathlib.Core.Path.{◌∙◌}
use Rattle.coordinates.proofs.Kept.{whole_below, marked_is}
use Rattle.coordinates.proofs.power.marked_at.Goals as goal

pub power_by-requires : goal.power_by-requires
power_by-requires c = rw c.power_digits-k.ensures (whole_below 10 3 _ (lit< tt))

-- a sign or none, and digits or none
pub returns : goal.returns
returns c =
    let a = c.args in
    c.power_by.ensures ∙ marked_is a.w.now a.at _ _ c.sign_at-s.ensures c.power_digits-k.ensures
