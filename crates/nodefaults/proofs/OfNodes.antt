-- The faults of a face's count and nodes, over the four words of its row. Assumes nothing.
use Prim.Native.Nat.{ℕ, zero, suc, ◌+◌, ◌≤◌}
use native.Mathlib.Omega.{arith}
use mathlib.Core.Path.{◌≡◌, refl, sym, ap, ◌∙◌}
use mathlib.Core.List.{List, [], ◌∷◌}
use mathlib.Core.Bool.{Bool, true, false, not, ◌||◌, or-false}
use borrow.Author.Tests.{eq-eqb, ne_eqb, eqb-true, eqb-false, le-leb, leb-true, not-false}
use lib.Dec.{eqb, leb}
use lib.ListN.{length, take, get_or}
use Rattle.facts.proofs.Branch.{split}
use Rattle.facts.proofs.Decides.{and_split, or_left, or_right, or_split, either_of, or_none}
use Rattle.mesh.specs.declared.Face.{Face}
use Rattle.faults.specs.declared.Frame.{Frame}
use Rattle.faults.specs.Over.{any_of}
use Rattle.faults.specs.Faults.{looked_at, positions_of, wrong_count, wrong_node, is_in, has_fault, any_of_kind, node_fault}

-- two tests, asked of each place together
any_both : (s t : ℕ → Bool) (i n : ℕ) → any_of (λ p. s p || t p) i n ≡ (any_of s i n || any_of t i n)
unfolding any_of
any_both s t i zero = refl
any_both s t i (suc n) = rw (any_both s t (i + 1) n) (crossed (s i) (t i) (any_of s (i + 1) n) (any_of t (i + 1) n))
  where
    crossed : (a b c d : Bool) → ((a || b) || (c || d)) ≡ ((a || c) || (b || d))
    crossed true b c d = refl
    crossed false true true d = refl
    crossed false false true d = refl
    crossed false b false d = refl

module _ (n dim count : ℕ) (h : wrong_count n dim count ≡ false) where
  pub flat_count : dim ≡ 2 → count ≡ 2
  unfolding wrong_count
  flat_count e = eqb-true count 2 (not-false _ (rw (eq-eqb dim 2 e, wrong_count) at h))

  pub solid_count : (dim ≡ 2 → ⊥) → (3 ≤ count) × (count ≤ n)
  unfolding wrong_count
  solid_count e =
      let s = and_split (leb 3 count) (leb count n) (not-false _ (rw (ne_eqb dim 2 e, wrong_count) at h)) in
      (leb-true 3 count s.0, leb-true count n s.1)

  pub looked_all : 2 ≤ n → (2 ≤ count) × (looked_at n count ≡ count)
  unfolding looked_at
  looked_all m =
      let b : (2 ≤ count) × (count ≤ n) =
      split (eqb dim 2)
      (λ t. let e = flat_count (eqb-true dim 2 t) in (omega arith, omega arith))
      (λ t. let s = solid_count (eqb-false dim 2 t) in (omega (arith, s.0), s.1))
      in
      (b.0, rw (le-leb 2 count b.0, le-leb count n b.1, looked_at))

-- a test of each place, of which there are four
module _ (dim count : ℕ) (t : ℕ → Bool) where
  abbrev within : Bool
  within = wrong_count 4 dim count || any_of t 0 (looked_at 4 count)

  -- with a right count all of it is looked at
  found : (wrong_count 4 dim count ≡ false → any_of t 0 count ≡ true) → true ≡ within
  found f =
      split (wrong_count 4 dim count)
      (λ w. rw w)
      (λ w. let s = looked_all 4 dim count w (omega arith) in rw (w, s.1) (sym (f w)))

  first : (n : ℕ) → 2 ≤ n → (t 0 || t 1) ≡ true → any_of t 0 n ≡ true
  unfolding any_of
  first zero h e = absurd (omega arith)
  first (suc zero) h e = absurd (omega arith)
  first (suc (suc n)) h e = either_of (or_split (t 0) (t 1) e) (λ a. or_left _ a) (λ b. or_right (t 0) (or_left _ b))

  third : (n : ℕ) → 3 ≤ n → t 2 ≡ true → any_of t 0 n ≡ true
  unfolding any_of
  third zero h e = absurd (omega arith)
  third (suc zero) h e = absurd (omega arith)
  third (suc (suc zero)) h e = absurd (omega arith)
  third (suc (suc (suc n))) h e = or_right (t 0) (or_right (t 1) (or_left _ e))

  -- the ways through the code
  of_pair : (t 0 || t 1) ≡ true → true ≡ within
  of_pair e = found (λ w. first count (looked_all 4 dim count w (omega arith)).0 e)

  of_third : (dim ≡ 2 → ⊥) → t 2 ≡ true → true ≡ within
  of_third d e = found (λ w. third count (solid_count 4 dim count w d).0 e)

  of_other : (dim ≡ 2 → ⊥) → (count ≡ 3 → ⊥) → (count ≡ 4 → ⊥) → true ≡ within
  of_other d h k = split (wrong_count 4 dim count) (λ w. rw w) (λ w. let s = solid_count 4 dim count w d in absurd (k (last s.0 s.1)))
    where
      last : 3 ≤ count → count ≤ 4 → count ≡ 4
      last p q = omega arith

  module _ (pair : (t 0 || t 1) ≡ false) where
    abbrev a : t 0 ≡ false
    a = (or_none (t 0) (t 1) pair).0

    abbrev b : t 1 ≡ false
    b = (or_none (t 0) (t 1) pair).1

    of_flat : dim ≡ 2 → not (eqb count 2) ≡ within
    unfolding any_of wrong_count looked_at
    of_flat e = split (eqb count 2) (λ u. rw (eqb-true count 2 u, e, a, b)) (λ u. rw (u, eq-eqb dim 2 e, u, wrong_count))

    of_3 : (dim ≡ 2 → ⊥) → t 2 ≡ false → count ≡ 3 → false ≡ within
    unfolding any_of wrong_count looked_at
    of_3 d c k = rw (ne_eqb dim 2 d, wrong_count, k, a, b, c)

    of_4 : (dim ≡ 2 → ⊥) → t 2 ≡ false → count ≡ 4 → t 3 ≡ within
    unfolding any_of wrong_count looked_at
    of_4 d c k = rw (ne_eqb dim 2 d, wrong_count, k, a, b, c, or-false (t 3))

-- the first words of a row
pub front : (l : List ℕ) → length l ≡ 4
    → (take 1 l ≡ get_or l 0 0 ∷ []) × (take 2 l ≡ get_or l 0 0 ∷ get_or l 1 0 ∷ []) × (take 3 l ≡ get_or l 0 0 ∷ get_or l 1 0 ∷ get_or l 2 0 ∷ [])
front [] h = absurd (omega arith)
front (a ∷ []) h = absurd (omega arith)
front (a ∷ b ∷ []) h = absurd (omega arith)
front (a ∷ b ∷ c ∷ []) h = absurd (omega arith)
front (a ∷ b ∷ c ∷ d ∷ l) h = (refl, refl, refl)

-- the tests of the first two places, in another order
paired : (x y z : Bool) → (z || (x || y)) ≡ ((x || false) || (y || (z || false)))
paired true y true = refl
paired true y false = refl
paired false true true = refl
paired false true false = refl
paired false false true = refl
paired false false false = refl

module _ (frame : Frame) (face : Face) (h : length face.nodes ≡ 4) where
  abbrev at : ℕ → ℕ
  at p = get_or face.nodes p 0

  abbrev wrong : ℕ → Bool
  wrong p = wrong_node frame.nodes (at p)

  abbrev test : ℕ → Bool
  test p = wrong p || is_in (at p) (take p face.nodes)

  kinds : (wrong_count 4 frame.dim face.count || (any_of wrong 0 (looked_at 4 face.count) || any_of (λ p. is_in (at p) (take p face.nodes)) 0 (looked_at 4 face.count)))
      ≡ node_fault 4 frame face
  unfolding node_fault any_of any_of_kind positions_of has_fault
  kinds = simp or-false

  node_is : within frame.dim face.count test ≡ node_fault 4 frame face
  node_is =
      ap (λ (b : Bool). wrong_count 4 frame.dim face.count || b) (any_both wrong (λ p. is_in (at p) (take p face.nodes)) 0 (looked_at 4 face.count)) ∙ kinds

  abbrev pair : Bool
  pair = eqb (at 0) (at 1) || (wrong 0 || wrong 1)

  pair_is : pair ≡ (test 0 || test 1)
  unfolding is_in
  pair_is = rw (front face.nodes h).0 (paired (wrong 0) (wrong 1) (eqb (at 0) (at 1)))

  third_is : (wrong 2 || is_in (at 2) (at 0 ∷ at 1 ∷ [])) ≡ test 2
  third_is = rw (front face.nodes h).1

  fourth_is : (wrong 3 || is_in (at 3) (at 0 ∷ at 1 ∷ at 2 ∷ [])) ≡ test 3
  fourth_is = rw (front face.nodes h).2

  -- the ways through the code
  pub nodes_pair : pair ≡ true → true ≡ node_fault 4 frame face
  nodes_pair e = of_pair _ _ test (sym pair_is ∙ e) ∙ node_is

  pub nodes_flat : pair ≡ false → frame.dim ≡ 2 → not (eqb face.count 2) ≡ node_fault 4 frame face
  nodes_flat e d = of_flat _ _ test (sym pair_is ∙ e) d ∙ node_is

  pub nodes_third : (frame.dim ≡ 2 → ⊥) → (wrong 2 || is_in (at 2) (at 0 ∷ at 1 ∷ [])) ≡ true → true ≡ node_fault 4 frame face
  nodes_third d e = of_third _ _ test d (sym third_is ∙ e) ∙ node_is

  pub nodes_3 : pair ≡ false → (frame.dim ≡ 2 → ⊥) → (wrong 2 || is_in (at 2) (at 0 ∷ at 1 ∷ [])) ≡ false → face.count ≡ 3 → false ≡ node_fault 4 frame face
  nodes_3 e d f k = of_3 _ _ test (sym pair_is ∙ e) d (sym third_is ∙ f) k ∙ node_is

  pub nodes_4 : pair ≡ false → (frame.dim ≡ 2 → ⊥) → (wrong 2 || is_in (at 2) (at 0 ∷ at 1 ∷ [])) ≡ false → face.count ≡ 4
      → (wrong 3 || is_in (at 3) (at 0 ∷ at 1 ∷ at 2 ∷ [])) ≡ node_fault 4 frame face
  nodes_4 e d f k = fourth_is ∙ of_4 _ _ test (sym pair_is ∙ e) d (sym third_is ∙ f) k ∙ node_is

  pub nodes_other : (frame.dim ≡ 2 → ⊥) → (face.count ≡ 3 → ⊥) → (face.count ≡ 4 → ⊥) → true ≡ node_fault 4 frame face
  nodes_other d p q = of_other _ _ test d p q ∙ node_is
