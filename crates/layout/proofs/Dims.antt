-- The dimension that reading keeps decides what the layout asks of the dimensions said before. Assumes nothing.
use Prim.Native.Nat.{ℕ, ◌<◌}
use native.Mathlib.Omega.{arith}
use mathlib.Core.Path.{◌≡◌, sym, ◌∙◌, ap}
use mathlib.Core.Logic.{inl, inr}
use mathlib.Core.List.{List, [], ◌∷◌, ◌++◌}
use mathlib.Core.Bool.{true, ◌&&◌, ◌||◌, not}
use borrow.Author.Tests.{eqb-true, eq-eqb}
use lib.Dec.{eqb}
use Rattle.facts.proofs.Decides.{Decides, yes_is, by, eq_is, ne_is, and_is, or_is, and_split, and_join, or_right, either_of}
use Rattle.layout.specs.Items.{Perhaps, absent, given, Item, says_dim}
use Rattle.layout.specs.Keeps.{All, Some, SaysDim, SameDim, DimFits}
use Rattle.layout.specs.State.{dim_after}
use Rattle.layout.proofs.Lists.{all_more, some_more, kept, none}

pub record Dims (before : List Item) (d : ℕ) : Type 0 where
  pub same : (n : ℕ) → 0 < n → Decides (eqb d 0 || eqb d n) (All (SameDim n) before)
  pub known : (n : ℕ) → Decides (not (eqb n 0) && eqb d n) (Some (SaysDim n) before)

pub none_dims : Dims [] 0
none_dims = record { same = λ n p. yes_is; known = λ n. never n }
  where
    never : (n : ℕ) → Decides (not (eqb n 0) && eqb 0 n) ⊥
    never n = (λ q. let z = (and_is (ne_is n 0) (eq_is 0 n)).0 q in z.0 (sym z.1), λ p. absurd p)

given_is : {m n : ℕ} → given m ≡ given n → m ≡ n
given_is e = cc

given_not : {A : Type 0} {n : ℕ} → absent ≡ given n → A
given_not e = absurd (let z : ◌≡◌ {A = ℕ} 0 1 = cc in omega arith)

pub dims_same : {n : ℕ} (m : ℕ) (is : List Item) → All (SameDim m) is → Some (SaysDim n) is → n ≡ m
dims_same m [] a y = absurd y
dims_same {n} m (j ∷ is) a (inl y) = a.0 n y
dims_same m (j ∷ is) a (inr y) = dims_same m is a.1 y

-- a dimension is said exactly where it is the one kept
module _ {before : List Item} {d : ℕ} (s : Dims before d) (n : ℕ) where
  pub dim_known_lem : (n ≡ 0 → ⊥) → d ≡ n → Some (SaysDim n) before
  dim_known_lem p e = (s.known n).0 (and_join ((ne_is n 0).1 p) (eq-eqb d n e))

  pub dim_is : Some (SaysDim n) before → (d ≡ n) × (n ≡ 0 → ⊥)
  dim_is h = let a = (and_is (ne_is n 0) (eq_is d n)).0 ((s.known n).1 h) in (a.1, a.0)

module _ (before : List Item) (d : ℕ) (s : Dims before d) (i : Item) where
  pub more_dims : (v : Perhaps) → says_dim i ≡ v → DimFits before v → Dims (before ++ (i ∷ [])) (dim_after d v)
  more_dims absent e f =
      record {
        same = λ n p. kept before (SameDim n) i (λ m q. given_not (sym e ∙ q)) (s.same n p);
        known = λ n. none before (SaysDim n) i (λ q. given_not (sym e ∙ q)) (s.known n);
      }
  more_dims (given m) e f =
      record {
        same = λ n p. by (all_more (SameDim n) i before) (
          λ q. let z = agreed n q in (λ u y. sym (given_is (sym e ∙ y)) ∙ z, rw z at f.same),
          λ y. or_right (eqb m 0) (eq-eqb m n (y.0 m e)),
        );
        known = λ n. by (some_more (SaysDim n) i before) (
          λ q. inl (e ∙ ap given (eqb-true m n (and_split (not (eqb n 0)) (eqb m n) q).1)),
          λ y. let z = either_of y (λ a. given_is (sym e ∙ a)) (λ a. sym (dims_same m before f.same a)) in
              and_join ((ne_is n 0).1 (λ b. positive (z ∙ b))) (eq-eqb m n z),
        );
      }
    where
      positive : m ≡ 0 → ⊥
      positive z = either_of f.listed (λ q. omega arith) (λ q. omega arith)

      agreed : (n : ℕ) → (eqb m 0 || eqb m n) ≡ true → m ≡ n
      agreed n q = either_of ((or_is (eq_is m 0) (eq_is m n)).0 q) (λ z. absurd (positive z)) (λ z. z)
