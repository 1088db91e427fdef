use mathlib.Core.Path.{◌∙◌}
use Rattle.quick.proofs.Near.{from_below, near_found}
use Rattle.quick.proofs.Knowing.{known_from}
use native.Mathlib.Omega.{arith}
use Rattle.quick.proofs.words.known_hex.Goals as goal

-- src/words.rt:125:20
pub overflow_add-from : goal.overflow_add-from
overflow_add-from c = omega (arith, (near_found _ _ _ c.near_hexes-near.ensures c.if-near-gt0.true).within)

-- src/words.rt:126:9
pub known_of-requires : goal.known_of-requires
known_of-requires c =
    let n = near_found _ _ _ c.near_hexes-near.ensures c.if-near-gt0.true in
    from_below _ _ _ _ (omega (arith, n.within)) (omega arith) n.found

-- src/words.rt:126:9
pub returns-then-near-gt0 : goal.returns-then-near-gt0
returns-then-near-gt0 c =
    let n = near_found _ _ _ c.near_hexes-near.ensures c.if-near-gt0.true in
    c.known_of.ensures ∙ known_from _ _ _ _ n.starts n.found

-- src/words.rt:130:5
pub known_of-requires-2 : goal.known_of-requires-2
known_of-requires-2 c = from_below _ _ _ _ c.start-start.type_inv (omega arith) c.hexes_from-h.ensures

-- src/words.rt:120:1
pub returns : goal.returns
returns c = c.known_of-2.ensures ∙ known_from _ _ _ _ c.start-start.ensures c.hexes_from-h.ensures
