-- No second answer of a public function meets its contract. Assumes nothing.
use mathlib.Core.Path.{sym, ◌∙◌}
use Rattle.facts.specs.Only.{Only}
use Rattle.kept.proofs.is_clear.Reads as is_clear
use Rattle.kept.proofs.is_tiled.Reads as is_tiled
use Rattle.kept.proofs.by_lists.is_clear_by_lists.Reads as is_clear_by_lists
use Rattle.kept.proofs.by_lists.is_tiled_by_lists.Reads as is_tiled_by_lists

pub is_clear_only : Only is_clear.Post
is_clear_only κ a r r' x x' p q = p ∙ sym q

pub is_tiled_only : Only is_tiled.Post
is_tiled_only κ a r r' x x' p q = p ∙ sym q

pub is_clear_by_lists_only : Only is_clear_by_lists.Post
is_clear_by_lists_only κ a r r' x x' p q = p ∙ sym q

pub is_tiled_by_lists_only : Only is_tiled_by_lists.Post
is_tiled_by_lists_only κ a r r' x x' p q = p ∙ sym q
