-- What holds of a reader's answer unless it is a refusal, and how it goes on. Assumes nothing.
use Prim.Native.Nat.{ℕ}
use mathlib.Core.Path.{◌≡◌}
use mathlib.Core.List.{List}
use mathlib.Core.Bool.{Bool, true, false}
use Rattle.facts.proofs.Branch.{either}
use Rattle.tokens.specs.Listed.{Tok}
use Rattle.layout.specs.declared.Refusal.{Refusal}
use Rattle.layout.specs.Items.{Item}
use Rattle.layout.specs.Reading.{Got, got, bad, Reader, next}
use Rattle.layout.specs.State.{State}
use Rattle.layout.specs.Read.{Answer, accepted, refused}

pub data Held {A : Type 0} (P : A → List Tok → Type 0) : Got A → Type 0 where
  held : {a : A} {us : List Tok} → P a us → Held P (got a us)
  none : {w : Refusal} {o : ℕ} → Held P (bad w o)

pub bind : {A B : Type 0} {P : A → List Tok → Type 0} {Q : B → List Tok → Type 0} {g : Got A} {f : A → Reader B}
    → Held P g → ((a : A) (us : List Tok) → P a us → Held Q (f a us)) → Held Q (next g f)
bind (held {a} {us} p) k = k a us p
bind none k = none

pub sure : {A : Type 0} {Q : A → List Tok → Type 0} (b : Bool) (w : Refusal) (o : ℕ) {x : Got A} → (b ≡ true → Held Q x)
    → Held Q (elim b [ true ↦ x | false ↦ bad w o ])
sure {Q = Q} b w o h = either (Held Q) b h (λ _. none)

pub fork : {A : Type 0} {Q : A → List Tok → Type 0} (b : Bool) {x y : Got A}
    → (b ≡ true → Held Q x) → (b ≡ false → Held Q y) → Held Q (elim b [ true ↦ x | false ↦ y ])
fork {Q = Q} b h k = either (Held Q) b h k

pub lift : {A : Type 0} {P Q : A → List Tok → Type 0} {g : Got A} → Held P g → ((a : A) (us : List Tok) → P a us → Q a us) → Held Q g
lift (held {a} {us} p) f = held (f a us p)
lift none f = none

-- the same of a whole file's answer
pub data Met (P : State → List Item → Type 0) : Answer → Type 0 where
  met : {x : State} {all : List Item} → P x all → Met P (accepted x all)
  unmet : {w : Refusal} {k o : ℕ} → Met P (refused w k o)

pub met_if : {P : State → List Item → Type 0} (b : Bool) {x y : Answer} → (b ≡ true → Met P x) → (b ≡ false → Met P y)
    → Met P (elim b [ true ↦ x | false ↦ y ])
met_if {P} b h k = either (Met P) b h k
