use Rattle.steps.proofs.step.whole_for.Goals as goal

pub returns-in-SectionId : goal.returns-in-SectionId
returns-in-SectionId c = rw (c.section_id.ensures, c.in-SectionId.is)

pub returns-in-Hexadecimal : goal.returns-in-Hexadecimal
returns-in-Hexadecimal c = rw (c.hexadecimal.ensures, c.in-Hexadecimal.is)
