-- No second answer of a public function, and no second content of a slice lent to it, meets its contract. Assumes nothing.
use mathlib.Core.Path.{refl, sym, ◌∙◌}
use Rattle.facts.specs.Only.{Only}
use Rattle.facts.specs.OnlyLeft.{OnlyLeft}
use Rattle.tables.proofs.places.put_record.Reads as put_record
use Rattle.tables.proofs.places.rows_before.Reads as rows_before
use Rattle.tables.proofs.room.room_for.Reads as room_for

pub room_for_only : Only room_for.Post
room_for_only κ a r r' x x' p q = p ∙ sym q

pub rows_before_only : Only rows_before.Post
rows_before_only κ a r r' x x' p q = p ∙ sym q

pub put_record_only : OnlyLeft (λ κ x. x.0.now) put_record.Post
put_record_only κ a r r' x x' p q = (refl, p ∙ sym q)
