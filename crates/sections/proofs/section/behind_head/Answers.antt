use Rattle.kept.specs.Kept.{kept_of}
use Rattle.sections.proofs.Sections.{sect_is}
use Rattle.sections.proofs.Gates.{head_decl, head_part}
use Rattle.sections.proofs.section.behind_head.Goals as goal

pub returns-then-zone-eq0 : goal.returns-then-zone-eq0
returns-then-zone-eq0 c = let a = c.args in sect_is _ _ (head_decl (kept_of a.kept.now) _ a.x a.room a.h _ a.kind c.if-zone-eq0.true) c.decl_at.ensures

pub returns-else-zone-eq0 : goal.returns-else-zone-eq0
returns-else-zone-eq0 c = let a = c.args in sect_is _ _ (head_part (kept_of a.kept.now) _ a.x a.room a.h _ a.kind c.if-zone-eq0.false) c.part_at.ensures
