use Rattle.std.proofs.Common.{arith}
use Rattle.std.proofs.lemmas.Int.{to_z-of_z}
use Rattle.writer.proofs.NodeTests.{pairs_is}
use Rattle.writer.proofs.node_rows.pairs_fit.Goals as goal

pub returns-then-pair_fits-2 : goal.returns-then-pair_fits-2
returns-then-pair_fits-2 c = grind (arith, to_z-of_z, pairs_is)

pub returns-else-pair_fits-2 : goal.returns-else-pair_fits-2
returns-else-pair_fits-2 c = grind (arith, to_z-of_z, pairs_is)
