use Rattle.digits.proofs.Coupling.{nibbles_are}
use Rattle.digits.proofs.couple.nibbles.Goals as goal

-- src/couple.rt:34:1
pub returns : goal.returns
returns c = nibbles_are c.args.x c.values-all.result _ c.values-all.ensures c.folded.ensures
