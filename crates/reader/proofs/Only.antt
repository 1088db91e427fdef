-- No second answer of the reader, and no second content of what is lent, meets its contract. Assumes nothing.
use mathlib.Core.Path.{◌≡◌, refl, sym, ap, ◌∙◌}
use seplogic.Ra.Ura.{Ura}
use base.Logic.{SProp}
use prog.Memory.{Memory}
use prog.Routine.{Routine}
use types.Logic.{Logic}
use contract.Lifetimes.{Lfts}
use contract.Monad.{Fun, fact}
use denote.Triple.Entry.{Args, Res}
use denote.Triple.Clauses.{AtExit}
use Rattle.facts.specs.OnlyLeft.{OnlyLeft}
use Rattle.layout.specs.Rows.{Lent}
use Rattle.layout.specs.Read.{Result, Outcome, outcome, read_of}
use Rattle.layout.specs.Replies.{shown}
use Rattle.layout.proofs.Shown.{outcome_only}
use Rattle.reader.specs.contracts.lent.read as read

-- the contract, read out of its clause: `post_is` says that it is the contract
abbrev pub leaves : (κ : Lfts 6) → AtExit read.ended κ → Lent
leaves κ x =
    record { mantissas = x.1.0.now; exponents = x.1.1.0.now; faces = x.1.1.1.0.now; cells = x.1.1.1.1.0.now; zones = x.1.1.1.1.1.0.now }

abbrev pub takes : (κ : Lfts 6) → Args read.signature κ → Lent
takes κ a =
    record { mantissas = a.1.0.now; exponents = a.1.1.0.now; faces = a.1.1.1.0.now; cells = a.1.1.1.1.0.now; zones = a.1.1.1.1.1.0.now }

abbrev pub Post : (κ : Lfts 6) → Args read.signature κ → Res read.signature κ → AtExit read.ended κ → Type 0
Post κ a r x = ◌≡◌ {A = Outcome} (record { shown = shown r; held = leaves κ x }) (outcome (read_of a.0.now (takes κ a)))

pub post_is : {M : Type 1} {𝓤 : Ura M} (𝓛 : Logic 𝓤) (mem : Memory → SProp 𝓤) (run : Routine → Fun 𝓤) (κ : Lfts 6) (a : Args read.signature κ) (r : Res read.signature κ) (x : AtExit read.ended κ)
    → (read.clauses 𝓛 mem run κ a).ensures tt r x ≡ fact 𝓤 (Post κ a r x)
post_is 𝓛 mem run κ a r x = refl

pub read_only : OnlyLeft leaves Post
read_only κ a r r' x x' p q =
    let e = outcome_only (record { reply = r; held = leaves κ x }) (record { reply = r'; held = leaves κ x' }) (p ∙ sym q) in (ap (λ (o : Result). o.reply) e, ap (λ (o : Result). o.held) e)
