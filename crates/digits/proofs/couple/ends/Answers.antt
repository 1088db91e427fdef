use Rattle.digits.proofs.Coupling.{ends_are}
use Rattle.digits.proofs.couple.ends.Goals as goal

-- src/couple.rt:24:1
pub returns : goal.returns
returns c = ends_are c.args.x
