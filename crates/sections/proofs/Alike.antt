-- Any two answers that meet the contract stand for the same: the place behind a section is told up to the blanks there. Assumes nothing.
use mathlib.Core.Path.{sym, ◌∙◌}
use Rattle.facts.specs.Alike.{Alike}
use Rattle.sections.specs.Sections.{sect_view}
use Rattle.sections.proofs.section.section_at.Reads as section-at
use Rattle.sections.proofs.by_lists.section_by_lists.Reads as section-by-lists

pub section_at_alike : Alike (λ κ a r. sect_view a.0.now r) section-at.Post
section_at_alike κ a r r' x x' p q = p.says ∙ sym q.says

pub section_by_lists_alike : Alike (λ κ a r. sect_view a.0.now r) section-by-lists.Post
section_by_lists_alike κ a r r' x x' p q = p.says ∙ sym q.says
