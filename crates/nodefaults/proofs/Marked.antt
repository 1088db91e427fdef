-- The faults of a face's nodes as one number: how it is put together, and the ways through the code. Assumes nothing.
use Prim.Native.Nat.{ℕ, ◌+◌, ◌*◌, ◌^◌, ◌≤◌, ◌<◌}
use native.Mathlib.Omega.{arith}
use mathlib.Core.Path.{◌≡◌, refl, sym, ap, ◌∙◌}
use mathlib.Core.List.{List, [], ◌∷◌}
use mathlib.Core.Bool.{Bool, false, ◌&&◌, or-false}
use borrow.Author.Tests.{leb-true, le-ltb}
use Rattle.std.specs.List.{list_any}
use lib.Dec.{eqb, ltb, leb}
use lib.ListN.{length, take, get_or}
use Rattle.facts.proofs.Branch.{either}
use Rattle.facts.proofs.Decides.{and_split}
use Rattle.mesh.specs.declared.Face.{Face}
use Rattle.faults.specs.declared.Frame.{Frame}
use Rattle.faults.specs.Over.{packed}
use Rattle.faults.specs.Faults.{looked_at, positions_of, wrong_count, wrong_node, is_in, has_fault, any_of_kind, node_fault}
use Rattle.faults.specs.Sides.{one}
use Rattle.faults.specs.Marked.{four, kind_marks, node_part}
use Rattle.faults.proofs.Marked.{packed_none, cut, kind_none, kind_small}
use Rattle.nodefaults.proofs.OfNodes.{front}

-- ---- the kinds of a face
module _ (n : ℕ) (frame : Frame) (face : Face) where
  kind_1 : one (wrong_count n frame.dim face.count) ≡ kind_marks n frame face 1
  unfolding kind_marks packed positions_of has_fault
  kind_1 = omega arith

  kind_2 : packed 2 (λ p. one (wrong_node frame.nodes (get_or face.nodes p 0))) 0 (looked_at n face.count) ≡ kind_marks n frame face 2
  unfolding kind_marks positions_of has_fault
  kind_2 = refl

  kind_3 : packed 2 (λ p. one (is_in (get_or face.nodes p 0) (take p face.nodes))) 0 (looked_at n face.count) ≡ kind_marks n frame face 3
  unfolding kind_marks positions_of has_fault
  kind_3 = refl

  -- no fault, no mark
  pub node_none : {b : Bool} → b ≡ node_fault n frame face → b ≡ false → 0 ≡ node_part n frame face
  unfolding node_fault node_part
  node_none e t = sym (packed_none (any_of_kind n frame face) (2 ^ n) (kind_marks n frame face) (kind_none n frame face) 1 3 (sym e ∙ t))

-- ---- joined
module _ (frame : Frame) (face : Face) where
  abbrev NodeKinds : ℕ → ℕ → ℕ → Type 0
  NodeKinds x₁ x₂ x₃ = (x₁ ≡ kind_marks 4 frame face 1) × (x₂ ≡ kind_marks 4 frame face 2) × (x₃ ≡ kind_marks 4 frame face 3)

  pub node_kinds : {x₁ x₂ x₃ m : ℕ} {b₁ : Bool}
      → m ≡ looked_at 4 face.count
      → b₁ ≡ wrong_count 4 frame.dim face.count → x₁ ≡ 1 * one b₁
      → x₂ ≡ packed 2 (λ p. one (wrong_node frame.nodes (get_or face.nodes p 0))) 0 m
      → x₃ ≡ packed 2 (λ p. one (is_in (get_or face.nodes p 0) (take p face.nodes))) 0 m
      → NodeKinds x₁ x₂ x₃
  node_kinds e p₁ q₁ q₂ q₃ = (
    q₁ ∙ ap (λ (b : Bool). 1 * one b) p₁ ∙ omega arith ∙ kind_1 4 frame face,
    q₂ ∙ ap (packed 2 (λ p. one (wrong_node frame.nodes (get_or face.nodes p 0))) 0) e ∙ kind_2 4 frame face,
    q₃ ∙ ap (packed 2 (λ p. one (is_in (get_or face.nodes p 0) (take p face.nodes))) 0) e ∙ kind_3 4 frame face,
  )

  pub nodes_small : {x₁ x₂ x₃ : ℕ} → NodeKinds x₁ x₂ x₃ → (x₁ < 16) × (x₂ < 16) × (x₃ < 16)
  nodes_small k = (omega (arith, k.0, kind_small frame face 1), omega (arith, k.1, kind_small frame face 2), omega (arith, k.2, kind_small frame face 3))

  pub nodes_joined : {r x₁ x₂ x₃ : ℕ} → NodeKinds x₁ x₂ x₃ → r ≡ x₁ + 16 * (x₂ + 16 * x₃) → r ≡ node_part 4 frame face
  unfolding node_part packed
  nodes_joined k e = omega (arith, e, k.0, k.1, k.2)

-- ---- the ways through the code
pub cut_read : (g : ℕ → Bool) (m : ℕ) {r : ℕ} {a b c d : Bool} → m ≤ 4 → a ≡ g 0 → b ≡ g 1 → c ≡ g 2 → d ≡ g 3
    → r ≡ four (ltb 0 m && a) (ltb 1 m && b) (ltb 2 m && c) (ltb 3 m && d) → r ≡ packed 2 (λ p. one (g p)) 0 m
cut_read g m h p q s t e = e ∙ rw (p, q, s, t) (cut g m h)

-- with less than three looked at, it does not matter what is said of the third and the fourth
few_same : (m : ℕ) (a b c d : Bool) → m < 3 → four a b (ltb 2 m && false) (ltb 3 m && false) ≡ four a b (ltb 2 m && c) (ltb 3 m && d)
few_same m a b c d h = rw (le-ltb 2 m (omega arith), le-ltb 3 m (omega arith))

pub cut_few : (g : ℕ → Bool) (m : ℕ) {r : ℕ} {a b : Bool} → m < 3 → a ≡ g 0 → b ≡ g 1
    → r ≡ four (ltb 0 m && a) (ltb 1 m && b) (ltb 2 m && false) (ltb 3 m && false) → r ≡ packed 2 (λ p. one (g p)) 0 m
cut_few g m {a = a} {b = b} h p q e = cut_read g m (omega arith) p q refl refl (e ∙ few_same m (ltb 0 m && a) (ltb 1 m && b) (g 2) (g 3) h)

-- whether a word of a row of four stands before its place too
module _ (l : List ℕ) (h : length l ≡ 4) where
  abbrev pub again : ℕ → Bool
  again p = is_in (get_or l p 0) (take p l)

  pub again_0 : false ≡ again 0
  unfolding is_in
  again_0 = refl

  pub again_1 : eqb (get_or l 0 0) (get_or l 1 0) ≡ again 1
  unfolding is_in
  again_1 = rw ((front l h).0, or-false)

  pub again_2 : list_any (λ y. eqb y (get_or l 2 0)) (get_or l 0 0 ∷ get_or l 1 0 ∷ []) ≡ again 2
  unfolding is_in
  again_2 = rw (front l h).1

  pub again_3 : list_any (λ y. eqb y (get_or l 3 0)) (get_or l 0 0 ∷ get_or l 1 0 ∷ get_or l 2 0 ∷ []) ≡ again 3
  unfolding is_in
  again_3 = rw (front l h).2

pub looked_few : (count : ℕ) {m : ℕ} → m ≡ looked_at 4 count → m ≤ 4
unfolding looked_at
looked_few count e =
    rw e (either (λ (m : ℕ). m ≤ 4) (leb 2 count && leb count 4) (λ t. leb-true count 4 (and_split (leb 2 count) (leb count 4) t).1) (λ _. omega arith))
