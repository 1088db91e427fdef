-- A listed number is one that is in the list. Assumes nothing.
use Prim.Native.Nat.{ℕ}
use native.Mathlib.Omega.{arith}
use mathlib.Core.Path.{◌≡◌, refl, ◌∙◌, ap}
use mathlib.Core.List.{List, [], ◌∷◌}
use mathlib.Core.Bool.{◌||◌}
use lib.Dec.{eqb}
use Rattle.std.proofs.lemmas.Bool.Decides.{nat_tests}
use Rattle.std.specs.List.{list_any}
use Rattle.layout.specs.State.{among}

same_test : (u t : ℕ) → eqb u t ≡ eqb t u
same_test u t = grind (arith, nat_tests)

pub among_any : (l : List ℕ) (t : ℕ) → list_any (λ y. eqb y t) l ≡ among l t
unfolding among
among_any [] t = refl
among_any (u ∷ l) t = ap (λ y. eqb u t || y) (among_any l t) ∙ ap (λ y. y || among l t) (same_test u t)
