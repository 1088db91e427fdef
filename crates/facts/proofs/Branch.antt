-- A case split on a test, in the shapes that laws need it. Assumes nothing.
use Prim.Native.Nat.{ℕ}
use native.Mathlib.Omega.{arith}
use mathlib.Core.Path.{◌≡◌, refl}
use mathlib.Core.Bool.{Bool, true, false}

-- something by cases of b
pub split : {A : Type 0} (b : Bool) → (b ≡ true → A) → (b ≡ false → A) → A
split true p q = p refl
split false p q = q refl

-- of what a definition picks by b
pub either : {A : Type 0} (P : A → Type 0) (b : Bool) {x y : A} → (b ≡ true → P x) → (b ≡ false → P y) → P (elim b [ true ↦ x | false ↦ y ])
either P true p q = p refl
either P false p q = q refl

-- of two definitions that pick by the same b
pub both : {A B : Type 0} (R : A → B → Type 0) (b : Bool) {x y : A} {u v : B} → (b ≡ true → R x u) → (b ≡ false → R y v)
    → R (elim b [ true ↦ x | false ↦ y ]) (elim b [ true ↦ u | false ↦ v ])
both R true p q = p refl
both R false p q = q refl

-- b is not both
pub differ : {A : Type 0} (b : Bool) → b ≡ true → b ≡ false → A
differ b p q = absurd (let z : ◌≡◌ {A = ℕ} 0 1 = cc in omega arith)
