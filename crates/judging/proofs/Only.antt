-- No second answer of a public function meets its contract. Assumes nothing.
use mathlib.Core.Path.{sym, ◌∙◌}
use Rattle.facts.specs.Only.{Only}
use Rattle.judging.proofs.judge.decl_judged.Reads as decl-judged
use Rattle.judging.proofs.judge.part_judged.Reads as part-judged
use Rattle.judging.proofs.judge.ensure.Reads as ensure-lem
use Rattle.judging.proofs.judge.unless.Reads as unless

pub decl_judged_only : Only decl-judged.Post
decl_judged_only κ a r r' x x' p q = p ∙ sym q

pub part_judged_only : Only part-judged.Post
part_judged_only κ a r r' x x' p q = p ∙ sym q

pub unless_only : Only unless.Post
unless_only κ a r r' x x' p q = p ∙ sym q

pub ensure_only : Only ensure-lem.Post
ensure_only κ a r r' x x' p q = p ∙ sym q
