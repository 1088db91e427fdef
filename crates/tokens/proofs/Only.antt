-- No second answer of a public function meets its contract. Assumes nothing.
use mathlib.Core.Path.{sym, ◌∙◌, ap}
use Rattle.facts.specs.Only.{Only}
use Rattle.tokens.proofs.Cursor.new.Reads as new
use Rattle.tokens.proofs.Cursor.token.Reads as token
use Rattle.tokens.proofs.Cursor.start.Reads as start
use Rattle.tokens.proofs.Cursor.ends_word.Reads as ends_word_lem
use Rattle.tokens.proofs.Cursor.mark.Reads as mark
use Rattle.tokens.proofs.is_blank.Reads as is_blank_lem

pub new_only : Only new.Post
new_only κ a r r' x x' p q = ap (λ n. record { at = n }) (p ∙ sym q)

pub token_only : Only token.Post
token_only κ a r r' x x' p q = p ∙ sym q

pub start_only : Only start.Post
start_only κ a r r' x x' p q = p ∙ sym q

pub ends_word_only : Only ends_word_lem.Post
ends_word_only κ a r r' x x' p q = p ∙ sym q

pub mark_only : Only mark.Post
mark_only κ a r r' x x' p q = p ∙ sym q

pub is_blank_only : Only is_blank_lem.Post
is_blank_only κ a r r' x x' p q = p ∙ sym q
