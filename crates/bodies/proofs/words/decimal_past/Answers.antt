use Rattle.steps.proofs.Pairing.{went_paired}
use Rattle.bodies.proofs.Forgotten.{decimal_went}
use Rattle.bodies.proofs.words.decimal_past.Goals as goal

-- a coordinate that is good whatever it says
pub returns-in-Some : goal.returns-in-Some
returns-in-Some c = decimal_went _ _ _ (went_paired _ _ _ c.quick_pair.ensures _ c.in-Some.is)
