-- Sorted lists: joined, over a range, and that nothing stands in one twice. Assumes nothing.
use Prim.Native.Nat.{ℕ, zero, suc, ◌+◌, ◌≤◌, ◌<◌}
use native.Mathlib.Omega.{arith}
use mathlib.Core.Path.{◌≡◌, refl}
use mathlib.Core.List.Memᴰ
use mathlib.Core.List.{List, [], ◌∷◌, ◌++◌, Memᴰ}
use mathlib.Core.Logic.{⊎_elim}
use lib.ListN.{length, get_or}
use Rattle.records.specs.declared.Fault.{Fault}
use Rattle.faults.specs.Over.{each}
use Rattle.faults.specs.Order.{Before, stage, index, kind, extra, Sorted, none, more}
use Rattle.faults.proofs.Over.{each_in}

pub sorted_append : {a b : List Fault} → Sorted a → Sorted b → ((x y : Fault) → Memᴰ x a → Memᴰ y b → Before x y) → Sorted (a ++ b)
sorted_append none s c = s
sorted_append {b = b} (more {x = x} {l = l} h r) s c =
    more (λ y m. ⊎_elim (h y) (c x y (Memᴰ.head refl)) (Memᴰ.append_cases l m)) (sorted_append r s (λ u v m. c u v (Memᴰ.tail m)))

pub sorted_each : (g : ℕ → List Fault) (i n : ℕ) → ((j : ℕ) → Sorted (g j))
    → ((j k : ℕ) (x y : Fault) → i ≤ j → j < k → k < i + n → Memᴰ x (g j) → Memᴰ y (g k) → Before x y) → Sorted (each g i n)
unfolding each
sorted_each g i zero s c = none
sorted_each g i (suc n) s c =
    sorted_append (s i) (sorted_each g (i + 1) n s (λ j k x y l h u. c j k x y (omega arith) h (omega arith)))
    (λ x y m k. let f = each_in g (i + 1) n k in c i f.at x y (omega arith) (omega (arith, f.low)) (omega (arith, f.high)) m f.there)

-- nothing stands before itself
before_not : {x : Fault} → Before x x → ⊥
before_not (stage h) = omega arith
before_not (index e h) = omega arith
before_not (kind e f h) = omega arith
before_not (extra e f h) = omega arith

in_list : (l : List Fault) (z : Fault) (i : ℕ) → i < length l → Memᴰ (get_or l i z) l
in_list [] z i h = absurd (omega arith)
in_list (x ∷ l) z zero h = Memᴰ.head refl
in_list (x ∷ l) z (suc i) h = Memᴰ.tail (in_list l z i (omega arith))

pub sorted_before : {l : List Fault} → Sorted l → (z : Fault) (i j : ℕ) → i < j → j < length l → Before (get_or l i z) (get_or l j z)
sorted_before none z i j h k = absurd (omega arith)
sorted_before (more {x = x} {l = l} f s) z zero zero h k = absurd (omega arith)
sorted_before (more {x = x} {l = l} f s) z zero (suc j) h k = f (get_or l j z) (in_list l z j (omega arith))
sorted_before (more {x = x} {l = l} f s) z (suc i) zero h k = absurd (omega arith)
sorted_before (more {x = x} {l = l} f s) z (suc i) (suc j) h k = sorted_before s z i j (omega arith) (omega arith)

-- none stands twice
pub sorted_once : {l : List Fault} → Sorted l → (z : Fault) (i j : ℕ) → i < j → j < length l → get_or l i z ≡ get_or l j z → ⊥
sorted_once {l} s z i j h k e = before_not {x = get_or l j z} (rw e at (sorted_before s z i j h k))
