-- Every declared index lies in a span exactly where it lies in a section. Assumes nothing.
use Prim.Native.Nat.{ℕ, zero, suc, ◌≤◌}
use native.Mathlib.Omega.{arith}
use mathlib.Core.Path.{◌≡◌, refl}
use mathlib.Core.List.{List}
use mathlib.Core.Bool.{Bool, true, false}
use borrow.Author.Tests.{eqb-true, eqb-false}
use lib.Dec.{eqb}
use Rattle.facts.proofs.Decides.{Decides, and_join, and_split}
use Rattle.layout.specs.Items.{Kind, Item}
use Rattle.layout.specs.Keeps.{Some, Declares, Covers}
use Rattle.layout.specs.State.{Span, Per, some_of, covers, tiled}
use Rattle.layout.specs.Read.{tiled_per}
use Rattle.layout.proofs.Sums.{Sums, total_is, declared_is}

module _ (bs : List Span) (P : ℕ → Type 0) (d : (i : ℕ) → Decides (some_of (covers i) bs) (P i)) where
  tile : (t i : ℕ) → P (suc t) → ((j : ℕ) → 1 ≤ j → j ≤ t → P j) → 1 ≤ i → i ≤ suc t → (b : Bool) → eqb i (suc t) ≡ b → P i
  tile t i s h l m true e = rw (eqb-true i (suc t) e) s
  tile t i s h l m false e = h i l (let n : (i ≡ suc t → ⊥) = eqb-false i (suc t) e in omega arith)

  tiled_is : (t : ℕ) → Decides (tiled bs t) ((i : ℕ) → 1 ≤ i → i ≤ t → P i)
  unfolding tiled
  tiled_is zero = (λ e i l m. absurd (omega arith), λ h. refl)
  tiled_is (suc t) = (
    λ e. let s = and_split _ _ e in λ i l m. tile t i ((d (suc t)).0 s.0) ((tiled_is t).0 s.1) l m (eqb i (suc t)) refl,
    λ h. and_join ((d (suc t)).1 (h (suc t) (omega arith) (omega arith))) ((tiled_is t).1 (λ i l m. h i l (omega arith))),
  )

abbrev pub Tiled : List Item → Kind → Type 0
Tiled is k = (t : ℕ) → Some (Declares k t) is → (i : ℕ) → 1 ≤ i → i ≤ t → Some (Covers k i) is

module _ (is : List Item) (k : Kind) (p : Per) (s : Sums is k p) where
  tiled_of : Decides (tiled_per p) ((i : ℕ) → 1 ≤ i → i ≤ p.total → Some (Covers k i) is)
  tiled_of = tiled_is p.spans (λ i. Some (Covers k i) is) s.covered p.total

  pub tiled_true : tiled_per p ≡ true → Tiled is k
  tiled_true e t d = let z = (total_is is k p s t d).1 in λ i l m. tiled_of.0 e i l (omega arith)

  -- where nothing is declared, nothing has to be covered
  pub tiled_back : Tiled is k → tiled_per p ≡ true
  tiled_back h = by_declared p.declared refl
    where
      by_declared : (b : Bool) → p.declared ≡ b → tiled_per p ≡ true
      by_declared true e = tiled_of.1 (h p.total (declared_is is k p s e))
      by_declared false e = tiled_of.1 (λ i l m. absurd (omega (arith, s.zero_total e)))
