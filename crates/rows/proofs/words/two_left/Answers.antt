use Rattle.rows.proofs.Wording.{left_two}
use native.Mathlib.Omega.{arith}
use Rattle.rows.proofs.words.two_left.Goals as goal

pub returns : goal.returns
returns c = let a = c.args in left_two a.s.now a.at a.left c.known_two.result (omega (arith, c.if-left-lt2.false)) c.known_two.ensures.says
