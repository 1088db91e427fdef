use borrow.Author.Tests.{lt-ltb, le-ltb}
use Rattle.sections.proofs.section.is_text.Goals as goal

pub returns-then-id-lt2000 : goal.returns-then-id-lt2000
returns-then-id-lt2000 c = rw (lt-ltb _ _ c.if-id-lt2000.true)

pub returns-else-id-lt2000 : goal.returns-else-id-lt2000
returns-else-id-lt2000 c = rw (le-ltb _ _ c.if-id-lt2000.false)
