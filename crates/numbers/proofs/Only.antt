-- No second answer of a public function meets its contract. Assumes nothing.
use mathlib.Core.Path.{sym, ◌∙◌}
use Rattle.facts.specs.Only.{Only}
use Rattle.numbers.proofs.digit.digit_of.Reads as digit_of_lem
use Rattle.numbers.proofs.sort.bad_at.Reads as bad_at_lem
use Rattle.numbers.proofs.whole.hexadecimal.Reads as hexadecimal
use Rattle.numbers.proofs.whole.power_digits.Reads as power_digits
use Rattle.numbers.proofs.whole.section_id.Reads as section_id

pub digit_of_only : Only digit_of_lem.Post
digit_of_only κ a r r' x x' p q = p ∙ sym q

pub hexadecimal_only : Only hexadecimal.Post
hexadecimal_only κ a r r' x x' p q = p ∙ sym q

pub section_id_only : Only section_id.Post
section_id_only κ a r r' x x' p q = p ∙ sym q

pub power_digits_only : Only power_digits.Post
power_digits_only κ a r r' x x' p q = p ∙ sym q

pub bad_at_only : Only bad_at_lem.Post
bad_at_only κ a r r' x x' p q = p ∙ sym q
