-- Closed cases of the functions that only our own crates call: the right answer, and what a wrong program would have answered there. Assumes nothing.
use mathlib.Core.Path.{◌≡◌, refl}
use lib.Count.{ones_in, ones, count_trailing_zeros, count_leading_zeros}
use Rattle.facts.specs.Text.{bytes}
use Rattle.digits.specs.Lanes.{lanes}
use Rattle.blocks.specs.Blocks.{block, block_of}

-- `block_of`: the word that began before the block, with one digit there, forgotten
block_of_lem : (block_of (lanes 8 (bytes " 1234567")) 1 ≡ block 1 7) × (block_of (lanes 8 (bytes " 1234567")) 0 ≡ block 0 7)
unfolding ones_in ones count_trailing_zeros count_leading_zeros lanes
block_of_lem = (refl, refl)
