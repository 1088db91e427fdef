-- No call asks anything of what it is given: of `read` as its clause says it, of the others as the check reads it. Assumes nothing.
use mathlib.Core.Path.{◌≡◌, refl}
use seplogic.Ra.Ura.{Ura}
use base.Logic.{SProp, emp}
use prog.Memory.{Memory}
use prog.Routine.{Routine}
use types.Logic.{Logic}
use contract.Monad.{Fun}
use contract.Lifetimes.{Lfts}
use denote.Triple.Entry.{Args}
use Rattle.audit.specs.contracts.audit as audit
use Rattle.audit.proofs.audit.Reads as audits
use Rattle.survey.specs.contracts.locate as locate
use Rattle.survey.proofs.locate.Reads as locates
use Rattle.survey.specs.contracts.survey as survey
use Rattle.survey.proofs.survey.Reads as surveys
use Rattle.reader.specs.contracts.read as read
use Rattle.filling.specs.contracts.read_flat as flat
use Rattle.filling.proofs.read_flat.Reads as flats

pub read_asks_nothing : {M : Type 1} {𝓤 : Ura M} (𝓛 : Logic 𝓤) (mem : Memory → SProp 𝓤) (run : Routine → Fun 𝓤) (κ : Lfts 6) (a : Args read.signature κ)
    → (read.clauses 𝓛 mem run κ a).requires tt ≡ emp 𝓤
read_asks_nothing 𝓛 mem run κ a = refl

pub flat_asks_nothing : (κ : Lfts 5) (a : Args flat.signature κ) → flats.Pre κ a
flat_asks_nothing κ a = tt

pub survey_asks_nothing : (κ : Lfts 1) (a : Args survey.signature κ) → surveys.Pre κ a
survey_asks_nothing κ a = tt

pub locate_asks_nothing : (κ : Lfts 1) (a : Args locate.signature κ) → locates.Pre κ a
locate_asks_nothing κ a = tt

pub audit_asks_nothing : (κ : Lfts 4) (a : Args audit.signature κ) → audits.Pre κ a
audit_asks_nothing κ a = tt
