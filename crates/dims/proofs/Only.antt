-- No second answer of a public function meets its contract. Assumes nothing.
use mathlib.Core.Path.{sym, ◌∙◌}
use Rattle.facts.specs.Only.{Only}
use Rattle.dims.proofs.dim_after.Reads as dim_after_lem
use Rattle.dims.proofs.dim_agrees.Reads as dim_agrees_lem
use Rattle.dims.proofs.dim_known.Reads as dim_known_lem
use Rattle.dims.proofs.dim_listed.Reads as dim_listed_lem
use Rattle.dims.proofs.dim_word.Reads as dim_word_lem

pub dim_after_only : Only dim_after_lem.Post
dim_after_only κ a r r' x x' p q = p ∙ sym q

pub dim_agrees_only : Only dim_agrees_lem.Post
dim_agrees_only κ a r r' x x' p q = p ∙ sym q

pub dim_known_only : Only dim_known_lem.Post
dim_known_only κ a r r' x x' p q = p ∙ sym q

pub dim_listed_only : Only dim_listed_lem.Post
dim_listed_only κ a r r' x x' p q = p ∙ sym q

pub dim_word_only : Only dim_word_lem.Post
dim_word_only κ a r r' x x' p q = p ∙ sym q
