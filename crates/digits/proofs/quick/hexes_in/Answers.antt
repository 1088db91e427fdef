use Rattle.digits.proofs.Hexed.{hexes_long, hexes_grouped, hexes_are, hexes_small}
use native.Mathlib.Omega.{arith}
use Rattle.digits.proofs.quick.hexes_in.Goals as goal

-- src/quick.rt:21:9
pub returns-then-w-gt-MOST : goal.returns-then-w-gt-MOST
returns-then-w-gt-MOST c = hexes_long _ c.if-w-gt-MOST.true

-- src/quick.rt:25:17
pub overflow_cast-value : goal.overflow_cast-value
overflow_cast-value c =
    omega (arith, hexes_small c.args.w.now _ c.if-w-gt-MOST.false (hexes_grouped _ _ _ c.if-w-gt-MOST.false c.bytes_at-x.ensures c.group_of-g.ensures))

-- src/quick.rt:17:1
pub returns : goal.returns
returns c = hexes_are _ _ c.if-w-gt-MOST.false (hexes_grouped _ _ _ c.if-w-gt-MOST.false c.bytes_at-x.ensures c.group_of-g.ensures)
