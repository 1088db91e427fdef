use Rattle.quick.proofs.Alone.{digit_known}
use Rattle.rows.proofs.words.count_at.Goals as goal

pub returns-in-Some : goal.returns-in-Some
returns-in-Some c = digit_known _ _ _ c.digit_hex.ensures _ _ c.in-Some.is
