-- No second answer meets the contract. Assumes nothing.
use mathlib.Core.Path.{sym, ◌∙◌}
use Rattle.facts.specs.Only.{Only}
use Rattle.quick.proofs.words.digit_hex.Reads as digit_hex_lem
use Rattle.quick.proofs.words.known_hex.Reads as known_hex
use Rattle.quick.proofs.words.quick_hex.Reads as quick_hex

pub quick_hex_only : Only quick_hex.Post
quick_hex_only κ a r r' x x' p q = p ∙ sym q

pub known_hex_only : Only known_hex.Post
known_hex_only κ a r r' x x' p q = p ∙ sym q

pub digit_hex_only : Only digit_hex_lem.Post
digit_hex_only κ a r r' x x' p q = p ∙ sym q
