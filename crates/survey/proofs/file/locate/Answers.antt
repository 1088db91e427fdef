use mathlib.Core.Path.{ap, refl}
use Rattle.layout.specs.Replies.{shown}
use Rattle.survey.proofs.Lengths.{too_long, not_too_long, no_places, its_places}
use Rattle.sections.specs.Sections.{room_all}
use Rattle.survey.proofs.file.locate.Goals as goal

pub returns-then-too_long : goal.returns-then-too_long
returns-then-too_long c =
    (ap shown (too_long c.args.s.now (room_all c.args.room) c.if-too_long.true refl), no_places c.args.s.now (room_all c.args.room) c.if-too_long.true)

pub returns : goal.returns
returns c =
    (ap shown (not_too_long c.args.s.now (room_all c.args.room) c.if-too_long.false c.file_from-reply.ensures.0), its_places c.args.s.now (room_all c.args.room) c.if-too_long.false c.file_from-reply.ensures.1)
