use Rattle.lines.proofs.Writing.{copying_start, copying_more, copying_end}
use Rattle.lines.proofs.put.put_text.Goals as goal

-- src/put.rt:27:5
pub loop-b-init : goal.loop-b-init
loop-b-init c = copying_start _ _ _ c.requires

-- src/put.rt:28:9
pub put_byte-c-requires : goal.put_byte-c-requires
put_byte-c-requires c = c.loop-b.invariant.place

-- src/put.rt:27:5
pub loop-b-preserved : goal.loop-b-preserved
loop-b-preserved c = copying_more _ _ _ _ _ _ c.loop-b.invariant _ _ c.loop-b-test.true c.put_byte-c.ensures

-- src/put.rt:21:1
pub shape_of-out : goal.shape_of-out
shape_of-out c = c.loop-b.invariant.kept

-- src/put.rt:21:1
pub returns : goal.returns
returns c = copying_end _ _ _ _ _ _ c.loop-b.invariant c.loop-b-test.false
