use Rattle.quick.proofs.Near.{from_end, from_few, from_whole}
use Rattle.quick.proofs.words.hexes_from.Goals as goal

-- src/words.rt:48:9
pub returns-then-size-start : goal.returns-then-size-start
returns-then-size-start c = from_end _ _ c.if-size-start.true

-- src/words.rt:52:9
pub returns-then-rest-lt-HEX_BYTES : goal.returns-then-rest-lt-HEX_BYTES
returns-then-rest-lt-HEX_BYTES c = from_few _ _ _ c.if-rest-lt-HEX_BYTES.true c.hexes_in.ensures

-- src/words.rt:43:1
pub returns : goal.returns
returns c = from_whole _ _ _ c.hexes_in-2.ensures
