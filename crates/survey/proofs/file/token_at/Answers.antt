use Rattle.tokens.proofs.Marked.{start_left}
use Rattle.survey.proofs.file.token_at.Goals as goal

pub returns-then-b-eq40 : goal.returns-then-b-eq40
returns-then-b-eq40 c = start_left _ _ _ c.start-start.ensures c.if-start-s.true c.if-b-eq40.true

pub returns : goal.returns
returns c = c.token.ensures
