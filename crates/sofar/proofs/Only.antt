-- No second answer of a public function meets its contract. Assumes nothing.
use mathlib.Core.Path.{sym, ◌∙◌}
use Rattle.facts.specs.Only.{Only}
use Rattle.sofar.proofs.count_of.Reads as count_of
use Rattle.sofar.proofs.id_of.Reads as id_of_lem
use Rattle.sofar.proofs.kind_of.Reads as kind_of
use Rattle.sofar.proofs.Room.rows.Reads as rows
use Rattle.sofar.proofs.State.seen.Reads as seen

pub count_of_only : Only count_of.Post
count_of_only κ a r r' x x' p q = p ∙ sym q

pub id_of_only : Only id_of_lem.Post
id_of_only κ a r r' x x' p q = p ∙ sym q

pub kind_of_only : Only kind_of.Post
kind_of_only κ a r r' x x' p q = p ∙ sym q

pub rows_only : Only rows.Post
rows_only κ a r r' x x' p q = p ∙ sym q

pub seen_only : Only seen.Post
seen_only κ a r r' x x' p q = p ∙ sym q
