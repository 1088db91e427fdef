-- `numbers::bad_at` answers the definition's place for each sort. Assumes nothing.
use Rattle.numbers.specs.Bad.{bad_at}
use Rattle.numbers.proofs.sort.bad_at.Goals as goal

-- a section id
pub returns-in-SectionId : goal.returns-in-SectionId
unfolding bad_at
returns-in-SectionId c = rw c.in-SectionId.is

-- a hexadecimal number
pub returns-in-Hexadecimal : goal.returns-in-Hexadecimal
unfolding bad_at
returns-in-Hexadecimal c = rw c.in-Hexadecimal.is

-- a coordinate
pub returns-in-Coordinate : goal.returns-in-Coordinate
unfolding bad_at
returns-in-Coordinate c = rw c.in-Coordinate.is
