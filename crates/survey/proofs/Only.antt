-- No second answer of the public functions meets their contracts. Assumes nothing.
use mathlib.Core.Path.{◌≡◌, sym, ◌∙◌}
use Rattle.facts.specs.Only.{Only}
use Rattle.layout.proofs.Shown.{shown_only}
use Rattle.survey.specs.declared.file.Located.{Located}
use Rattle.survey.proofs.file.locate.Reads as locate
use Rattle.survey.proofs.file.survey.Reads as survey

pub survey_only : Only survey.Post
survey_only κ a r r' x x' p q = shown_only r r' (p ∙ sym q)

same_located : (r r' : Located) → r.reply ≡ r'.reply → r.places ≡ r'.places → r ≡ r'
same_located r r' p q = λ i. record { reply = p i; places = q i }

pub locate_only : Only locate.Post
locate_only κ a r r' x x' p q = same_located r r' (shown_only r.reply r'.reply (p.0 ∙ sym q.0)) (p.1 ∙ sym q.1)
