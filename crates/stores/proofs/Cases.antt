-- Closed cases of the functions that only our own crates call: what a call that meets its contract leaves on an input, whatever the values are, and what a wrong program would have left there. Assumes nothing.
use Prim.Native.Nat.{ℕ}
use mathlib.Core.Path.{◌≡◌, refl, ◌∙◌}
use mathlib.Core.List.{List, [], ◌∷◌}
use mathlib.Core.Bool.{true, false}
use lib.Dec.{ltb}
use lib.IntN.{ℤ, pos}
use lib.ListN.{set}
use lib.Seq.{sets}
use Rattle.stores.proofs.store.Reads as store-lem
use Rattle.stores.proofs.copy_into.Reads as copy-into

abbrev words : List ℕ
words = 1 ∷ 2 ∷ []

abbrev numbers : List ℤ
numbers = pos 1 ∷ pos 2 ∷ []

-- `store`: 0 in the place of the value; a value behind the table moved to its last place; stored only at a place below 0, which none is
store :
    ((T : _) (laws : _) (copy : _) (clone : _) (dict : _) (κ : _) (a : _) (r : _) (x : _) → store-lem.Post T laws copy clone dict κ a r x
    → (one two seven : _) → a.0.now ≡ one ∷ two ∷ [] → a.1.1.0 ≡ seven
    → (◌≡◌ {A = ℕ} a.1.0 1 → x.0.now ≡ one ∷ seven ∷ []) × (◌≡◌ {A = ℕ} a.1.0 2 → x.0.now ≡ one ∷ two ∷ []))
    × (set words 1 0 ≡ 1 ∷ 0 ∷ [])
    × (set numbers 1 (pos 7) ≡ pos 1 ∷ pos 7 ∷ [])
    × (elim (ltb 1 0) [ true ↦ set numbers 1 (pos 7) | false ↦ numbers ] ≡ numbers)
store = (λ T laws copy clone dict κ a r x p one two seven old new. (λ at. p ∙ rw (old, at, new), λ at. p ∙ rw (old, at)), refl, refl, refl)

-- `copy_into`: the value behind the table moved to its last place
copy_into :
    ((T : _) (laws : _) (copy : _) (clone : _) (dict : _) (κ : _) (a : _) (r : _) (x : _) → copy-into.Post T laws copy clone dict κ a r x
    → (one two seven : _) → a.0.now ≡ one ∷ two ∷ [] → a.1.0.now ≡ seven ∷ [] → x.1.0.now ≡ one ∷ [])
    × (set (sets (7 ∷ []) 0 words) 0 2 ≡ 2 ∷ [])
copy_into = (λ T laws copy clone dict κ a r x p one two seven from to. p ∙ rw (from, to), refl)
