use mathlib.Core.Path.{◌∙◌}
use Rattle.quick.proofs.Near.{from_below, near_found}
use Rattle.quick.proofs.Ending.{quick_from}
use native.Mathlib.Omega.{arith}
use Rattle.quick.proofs.words.quick_hex.Goals as goal

-- src/words.rt:102:20
pub overflow_add-from : goal.overflow_add-from
overflow_add-from c = omega (arith, (near_found _ _ _ c.near_hexes-near.ensures c.if-near-gt0.true).within)

-- src/words.rt:103:9
pub quick_of-requires : goal.quick_of-requires
quick_of-requires c =
    let n = near_found _ _ _ c.near_hexes-near.ensures c.if-near-gt0.true in
    from_below _ _ _ _ (omega (arith, n.within)) (omega arith) n.found

-- src/words.rt:103:9
pub returns-then-near-gt0 : goal.returns-then-near-gt0
returns-then-near-gt0 c =
    let n = near_found _ _ _ c.near_hexes-near.ensures c.if-near-gt0.true in
    c.quick_of.ensures ∙ quick_from _ _ _ _ n.starts n.found

-- src/words.rt:107:5
pub quick_of-requires-2 : goal.quick_of-requires-2
quick_of-requires-2 c = from_below _ _ _ _ c.start-start.type_inv (omega arith) c.hexes_from-h.ensures

-- src/words.rt:97:1
pub returns : goal.returns
returns c = c.quick_of-2.ensures ∙ quick_from _ _ _ _ c.start-start.ensures c.hexes_from-h.ensures
