-- Words stored one behind the other in a list. Assumes nothing.
use Prim.Native.Nat.{ℕ, suc, ◌+◌, ◌≤◌}
use native.Mathlib.Omega.{arith}
use mathlib.Core.Path.{◌≡◌, refl, ◌∙◌, ap}
use mathlib.Core.List.{List, [], ◌∷◌, ◌++◌}
use lib.ListN.{length, set}
use lib.Seq.{sets, set_out}

module _ {A : Type 0} where
  -- what is stored in two goes is stored in one
  pub sets_append : (xs ys l : List A) (k : ℕ) → sets (sets l k xs) (k + length xs) ys ≡ sets l k (xs ++ ys)
  sets_append [] ys l k = let z : k + 0 ≡ k = omega arith in rw z
  sets_append (x ∷ xs) ys l k = let z : k + suc (length xs) ≡ suc k + length xs = omega arith in rw z (sets_append xs ys (set l k x) (suc k))

  -- behind the end nothing changes
  pub sets_out : (vs l : List A) (k : ℕ) → length l ≤ k → sets l k vs ≡ l
  sets_out [] l k h = refl
  sets_out (v ∷ vs) l k h = ap (λ y. sets y (suc k) vs) (set_out l k v h) ∙ sets_out vs l (suc k) (omega arith)
