-- No second answer of the writer, and no second content of the lent text, meets its contract. Assumes nothing.
use Prim.Native.Nat.{ℕ}
use native.Mathlib.Omega.{arith}
use mathlib.Core.Path.{◌≡◌, refl, sym, ap, ◌∙◌}
use mathlib.Core.List.{List}
use Rattle.std.specs.Prelude.{Result, Ok, Err}
use seplogic.Ra.Ura.{Ura}
use base.Logic.{SProp}
use prog.Memory.{Memory}
use prog.Routine.{Routine}
use types.Logic.{Logic}
use contract.Lifetimes.{Lfts}
use contract.Monad.{Fun, fact}
use denote.Triple.Entry.{Args, Res}
use denote.Triple.Clauses.{AtExit}
use Rattle.facts.specs.Only.{Only}
use Rattle.facts.specs.OnlyLeft.{OnlyLeft}
use Rattle.layout.specs.Rows.{Lent}
use Rattle.texts.specs.Write.{Values, Out, out, mesh_of, write_of}
use Rattle.writer.specs.declared.answer.Refusal.{Refusal}
use Rattle.writer.specs.Writer.{number_of, values_of, lent}
use Rattle.writer.proofs.answer.write_flat.Reads as flat_reads
use Rattle.writer.proofs.answer.U32FromRefusal.from.Reads as from
use Rattle.writer.specs.contracts.zones.write as write

-- an answer is known by its number and its length
number_only : (r s : Refusal) → number_of r ≡ number_of s → r ≡ s
number_only Refusal.Unwritable Refusal.Unwritable e = refl
number_only Refusal.Unwritable Refusal.TextRoom e = absurd (omega arith)
number_only Refusal.TextRoom Refusal.Unwritable e = absurd (omega arith)
number_only Refusal.TextRoom Refusal.TextRoom e = refl

refused : (r : Refusal) → 0 ≡ number_of r → ⊥
refused Refusal.Unwritable e = omega arith
refused Refusal.TextRoom e = omega arith

values_only : (r s : Result ℕ Refusal) → values_of r ≡ values_of s → r ≡ s
values_only (Ok b) (Ok c) e = ap Ok (ap (λ (v : Values). v.bytes) e)
values_only (Ok b) (Err s) e = absurd (refused s (ap (λ (v : Values). v.number) e))
values_only (Err r) (Ok c) e = absurd (refused r (sym (ap (λ (v : Values). v.number) e)))
values_only (Err r) (Err s) e = ap Err (number_only r s (ap (λ (v : Values). v.number) e))

out_only : (r s : Result ℕ Refusal) (x y : List ℕ) → ◌≡◌ {A = Out} (out (values_of r) x) (out (values_of s) y) → (r ≡ s) × (x ≡ y)
out_only r s x y e = (values_only r s (ap (λ (o : Out). o.answer) e), ap (λ (o : Out). o.text) e)

pub from_only : Only from.Post
from_only κ a r r' x x' p q = p ∙ sym q

pub write_flat_only : OnlyLeft (λ κ x. x.1.1.1.1.1.1.1.1.1.0.now) flat_reads.Post
write_flat_only κ a r r' x x' p q = out_only r r' _ _ (p ∙ sym q)

-- the contract, read out of its clause: `post_is` says that it is the contract
abbrev pub leaves : (κ : Lfts 6) → AtExit write.ended κ → List ℕ
leaves κ x = x.1.1.1.1.1.1.1.1.1.0.now

abbrev pub takes : (κ : Lfts 6) → Args write.signature κ → Lent
takes κ a = lent a.1.1.1.1.0.now a.1.1.1.1.1.0.now a.1.1.1.1.1.1.0.now a.1.1.1.1.1.1.1.0.now a.1.1.1.1.1.1.1.1.0.now

abbrev pub Post : (κ : Lfts 6) → Args write.signature κ → Res write.signature κ → AtExit write.ended κ → Type 0
Post κ a r x = ◌≡◌ {A = Out} (out (values_of r) (leaves κ x)) (write_of (mesh_of a.0 a.1.0 a.1.1.0 a.1.1.1.0 (takes κ a)) a.1.1.1.1.1.1.1.1.1.0.now)

pub post_is : {M : Type 1} {𝓤 : Ura M} (𝓛 : Logic 𝓤) (mem : Memory → SProp 𝓤) (run : Routine → Fun 𝓤) (κ : Lfts 6) (a : Args write.signature κ) (r : Res write.signature κ) (x : AtExit write.ended κ)
    → (write.clauses 𝓛 mem run κ a).ensures tt r x ≡ fact 𝓤 (Post κ a r x)
post_is 𝓛 mem run κ a r x = refl

pub write_only : OnlyLeft leaves Post
write_only κ a r r' x x' p q = out_only r r' _ _ (p ∙ sym q)
