use Rattle.std.proofs.Common.{◌*◌, ◌≡◌, take}
use Rattle.std.proofs.lemmas.List.Edits.{sets}
use Rattle.tables.proofs.places.put_record.Given as goal

abbrev pub invariant-loop-i : goal.invariant-loop-i
invariant-loop-i l = l.list ≡ sets l.initial.list (6 * l.z) (take l.i l.word-items)
