-- What the calls of the audit and of the writer put together is what they have to leave. Assumes nothing.
use Prim.Native.Nat.{ℕ}
use mathlib.Core.Path.{◌≡◌, ap, ◌∙◌}
use mathlib.Core.List.{List}
use lib.Seq.{sets}
use Rattle.mesh.specs.Rows.{places}
use Rattle.faults.specs.Sides.{Tables}
use Rattle.audit.specs.Audit.{Out, audit_of}
use Rattle.layout.specs.Says.{Mesh}
use Rattle.texts.specs.Write as Write
use Rattle.answers.specs.Words.{audit_words, write_words}
use Rattle.boundary.specs.Flat.{Kept, kept_by, audit_kept, Written, written_by, write_left}

pub kept_of_lem : (t : Tables) (counts list answer : List ℕ) (o : Out) → o ≡ audit_of places t counts list
    → (m : ℕ) (ans : List ℕ) → (m ≡ o.answer.number) × (ans ≡ sets answer 0 (audit_words o.answer))
    → ◌≡◌ {A = Kept} (record { number = m; answer = ans; counts = o.counts; list = o.list }) (audit_kept t counts list answer)
unfolding audit_kept
kept_of_lem t counts list answer o e m ans said =
    (λ i. record { number = said.0 i; answer = said.1 i; counts = o.counts; list = o.list }) ∙ ap (λ (y : Out). kept_by y answer) e

pub written_of : (t : Mesh) (text answer : List ℕ) (o : Write.Out) → o ≡ Write.write_of t text
    → (m : ℕ) (ans : List ℕ) → (m ≡ o.answer.number) × (ans ≡ sets answer 0 (write_words o.answer))
    → ◌≡◌ {A = Written} (record { number = m; answer = ans; text = o.text }) (write_left t text answer)
unfolding write_left
written_of t text answer o e m ans said = (λ i. record { number = said.0 i; answer = said.1 i; text = o.text }) ∙ ap (λ (y : Write.Out). written_by y answer) e
