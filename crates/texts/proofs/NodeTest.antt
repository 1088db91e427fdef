-- The test of node rows decides that they can be written. A row's law is over its width. Assumes nothing.
use Prim.Native.Nat.{ℕ, zero, suc, ◌*◌, ◌≤◌}
use native.Mathlib.Omega.{arith}
use mathlib.Core.Path.{◌≡◌, refl, sym, ap, subst}
use mathlib.Core.Logic.{◌↔◌}
use mathlib.Core.List.{List, [], ◌∷◌, ◌++◌, map, head-eq_of_cons-eq, tail-eq_of_cons-eq}
use lib.Dec.{eqb}
use lib.IntN.{ℤ, pos, nat_abs}
use lib.ListN.{length, take, drop, replicate, length-drop}
use Rattle.facts.proofs.Decides.{Decides, yes_is, by, eq_is, and_is}
use Rattle.mesh.specs.Rows.{node_words}
use Rattle.layout.specs.Items.{node, Perhaps, Pair, points}
use Rattle.texts.specs.Writes.{Each, CanonicalPair, Point, BodyWrites, points_write}
use Rattle.texts.specs.Tabled.{rows_of, point_of, points_of}
use Rattle.texts.specs.Writable.{NodeAgain}
use Rattle.texts.specs.Judged.{pairs_by, nodes_by}
use Rattle.texts.proofs.PairTest.{abs_zero, canonical_is}

zero_is : (m : ℤ) → Decides (eqb (nat_abs m) 0) (pos 0 ≡ m)
zero_is m = by (λ e. sym (abs_zero m e), λ e. ap nat_abs (sym e)) (eq_is (nat_abs m) 0)

-- a row of w words, of which d pairs are coordinates, is filled up with zeros; q of them are more than enough
module _ (q d : ℕ) (ms es : List ℤ) where
  abbrev Filled : (Pair → ℤ) → ℕ → List ℤ → Type 0
  Filled f w l = take w (map f (point_of d (take w ms) (take w es)) ++ replicate q (pos 0)) ≡ take w l

  abbrev PairsAre : ℕ → Type 0
  PairsAre w = (Filled (λ p. p.mantissa) w ms × Filled (λ p. p.exponent) w es) × Each CanonicalPair (point_of d (take w ms) (take w es))

cons_is : {a b : ℤ} {l r : List ℤ} → ((a ≡ b) × (l ≡ r)) ↔ (a ∷ l ≡ b ∷ r)
cons_is = (λ h i. h.0 i ∷ h.1 i, λ e. (head-eq_of_cons-eq e, tail-eq_of_cons-eq e))

pairs_is : (w q d : ℕ) (ms es : List ℤ) → w ≤ q → d ≤ w → w ≤ length ms → w ≤ length es → Decides (pairs_by w d ms es) (PairsAre q d ms es w)
unfolding pairs_by
pairs_is zero q zero ms es a b x y = by (λ _. ((refl, refl), tt), λ _. tt) yes_is
pairs_is zero q (suc d) ms es a b x y = absurd (omega arith)
pairs_is (suc w) zero d ms es a b x y = absurd (omega arith)
pairs_is (suc w) (suc q) d [] es a b x y = absurd (omega arith)
pairs_is (suc w) (suc q) d (m ∷ ms) [] a b x y = absurd (omega arith)
pairs_is (suc w) (suc q) zero (m ∷ ms) (e ∷ es) a b x y =
    by (
      λ p. ((cons_is.0 (p.0.0, p.1.0.0), cons_is.0 (p.0.1, p.1.0.1)), tt),
      λ p. let u = cons_is.1 p.0.0 in let v = cons_is.1 p.0.1 in ((u.0, v.0), ((u.1, v.1), tt)),
    )
    (and_is (and_is (zero_is m) (zero_is e)) (pairs_is w q zero ms es (omega arith) (omega arith) (omega arith) (omega arith)))
pairs_is (suc w) (suc q) (suc d) (m ∷ ms) (e ∷ es) a b x y =
    by (
      λ p. ((cons_is.0 (refl, p.1.0.0), cons_is.0 (refl, p.1.0.1)), (p.0, p.1.1)),
      λ p. (p.1.0, (((cons_is.1 p.0.0).1, (cons_is.1 p.0.1).1), p.1.1)),
    )
    (and_is (canonical_is m e) (pairs_is w (suc q) d ms es (omega arith) (omega arith) (omega arith) (omega arith)))

-- ---- n rows
point_many : (d : ℕ) (ms es : List ℤ) → length (point_of d ms es) ≡ d
point_many zero ms es = refl
point_many (suc d) ms es = ap suc (point_many d (drop 1 ms) (drop 1 es))

module _ (d : ℕ) (small : d ≤ node_words) where
  abbrev RowsAre : ℕ → List ℤ → List ℤ → Type 0
  RowsAre n ms es =
      let xs = rows_of node_words n ms in
      let ys = rows_of node_words n es in
      NodeAgain d xs ys × Each (Point d) (points_of d xs ys)

  rows_is : (n : ℕ) (ms es : List ℤ) → n * node_words ≤ length ms → n * node_words ≤ length es → Decides (nodes_by d n ms es) (RowsAre n ms es)
  unfolding rows_of nodes_by
  rows_is zero ms es h k = by (λ _. (tt, tt), λ _. tt) yes_is
  rows_is (suc n) ms es h k =
      by (
        λ p. ((p.0.0.0, p.0.0.1, p.1.0), ((point_many d (take node_words ms) (take node_words es), p.0.1), p.1.1)),
        λ p. (((p.0.0, p.0.1), p.1.0.1), (p.0.2, p.1.1)),
      )
      (and_is (pairs_is node_words node_words d ms es (omega arith) small (omega arith) (omega arith)) (rows_is n (drop node_words ms) (drop node_words es) (omega (arith, length-drop node_words ms)) (omega (arith, length-drop node_words es))))

  points_many : (n : ℕ) (ms es : List ℤ) → length (points_of d (rows_of node_words n ms) (rows_of node_words n es)) ≡ n
  unfolding rows_of
  points_many zero ms es = refl
  points_many (suc n) ms es = ap suc (points_many n (drop node_words ms) (drop node_words es))

  points_from : {n : ℕ} {v : Perhaps} {xs : List (List Pair)} → BodyWrites node n v (points d xs) → Each (Point d) xs
  points_from (points_write h) = h

  pub nodes_is : (n : ℕ) (v : Perhaps) (ms es : List ℤ) → n * node_words ≤ length ms → n * node_words ≤ length es
      → let xs = rows_of node_words n ms in
      let ys = rows_of node_words n es in
      Decides (nodes_by d n ms es) (NodeAgain d xs ys × BodyWrites node n v (points d (points_of d xs ys)))
  nodes_is n v ms es h k =
      let ps = points_of d (rows_of node_words n ms) (rows_of node_words n es) in
      by (λ p. (p.0, subst (λ j. BodyWrites node j v (points d ps)) (points_many n ms es) (points_write p.1)), λ p. (p.0, points_from p.1)) (rows_is n ms es h k)
