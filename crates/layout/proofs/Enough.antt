-- The counter of `file_of` is never used up: any number above that of the tokens gives one answer, refusals included. Assumes nothing.
use Prim.Native.Nat.{ℕ, zero, suc, ◌<◌}
use native.Mathlib.Omega.{arith}
use mathlib.Core.Path.{◌≡◌, refl, ap}
use mathlib.Core.List.{List, [], ◌∷◌, ◌++◌}
use lib.ListN.{length}
use Rattle.tokens.specs.Listed.{Tok, left, right, text, cut, word}
use Rattle.layout.specs.Items.{Item}
use Rattle.layout.specs.Keeps.{Room}
use Rattle.layout.specs.Reading.{Got}
use Rattle.layout.specs.State.{State, after}
use Rattle.layout.specs.Read.{Answer, onward, behind, file_of}
use Rattle.layout.proofs.Answers.{Held, held, none}
use Rattle.layout.proofs.Sums.{Seen, one_more}
use Rattle.layout.proofs.SoundSections.{section_holds}
use Rattle.layout.proofs.Behind.{section_less}

onward_same : {P : Item → List Tok → Type 0} {g : Got Item} (k : ℕ) {a b : Item → List Tok → Answer}
    → Held P g → ((i : Item) (us : List Tok) → P i us → a i us ≡ b i us) → onward g k a ≡ onward g k b
onward_same k (held {a} {us} p) h = h a us p
onward_same k none h = refl

pub file_of_enough : (size : ℕ) (room : Room) (n m : ℕ) (before : List Item) (x : State) → Seen before x → (k : ℕ) (ts : List Tok)
    → length ts < n → length ts < m → file_of size room n x k ts ≡ file_of size room m x k ts
unfolding file_of
file_of_enough size room zero m before x s k ts l h = absurd (omega arith)
file_of_enough size room (suc n) zero before x s k ts l h = absurd (omega arith)
file_of_enough size room (suc n) (suc m) before x s k [] l h = refl
file_of_enough size room (suc n) (suc m) before x s k (left o ∷ ts) l h =
    onward_same (suc k) (section_holds size before x s room ts) λ i us g.
    let q = section_less g.0 in
    ap (behind i) (file_of_enough size room n m (before ++ (i ∷ [])) (after x i) (one_more before x s room i g.1) (suc k) us (omega arith) (omega arith))
file_of_enough size room (suc n) (suc m) before x s k (right o ∷ ts) l h = refl
file_of_enough size room (suc n) (suc m) before x s k (text o ∷ ts) l h = refl
file_of_enough size room (suc n) (suc m) before x s k (cut o ∷ ts) l h = refl
file_of_enough size room (suc n) (suc m) before x s k (word o w ∷ ts) l h = refl
