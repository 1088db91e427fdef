-- A face or a cell without any fault has an empty list. Assumes nothing.
-- no test passes: nothing is listed
use Prim.Native.Nat.{ℕ, zero, suc, ◌+◌, ◌≤◌, zero-le}
use native.Mathlib.Omega.{arith}
use mathlib.Core.Path.{◌≡◌, refl, sym, ◌∙◌}
use mathlib.Core.Bool.{Bool, true, false, ◌&&◌, ◌||◌, or-false}
use borrow.Author.Tests.{leb-true}
use lib.Dec.{leb, eqb}
use Rattle.facts.proofs.Decides.{and_split}
use mathlib.Core.List.{List, []}
use Rattle.facts.proofs.Branch.{split, differ}
use Rattle.mesh.specs.declared.Face.{Face}
use Rattle.mesh.specs.declared.Cell.{Cell}
use Rattle.records.specs.declared.Fault.{Fault}
use Rattle.faults.specs.declared.Frame.{Frame}
use Rattle.faults.specs.Over.{each, any_of}
use Rattle.faults.specs.Faults.{looked_at, positions_of, has_fault, fault_at, faults_of_kind, faults_of_face, any_of_kind, node_fault, side_fault, any_fault, wrong_sides, has_cell_fault, cell_fault_at, faults_of_cell, any_cell_fault}

each_empty : (t : ℕ → Bool) (g : ℕ → List Fault) (i n : ℕ) → ((j : ℕ) → t j ≡ false → g j ≡ []) → any_of t i n ≡ false → each g i n ≡ []
unfolding any_of each
each_empty t g i zero h e = refl
each_empty t g i (suc n) h e =
    split (t i) (λ p. differ true refl (rw p at e)) (λ p. rw (h i p) (each_empty t g (i + 1) n h (rw p at e)))

module _ (n : ℕ) (frame : Frame) (i : ℕ) (face : Face) where
  kind_empty : (k : ℕ) → any_of_kind n frame face k ≡ false → faults_of_kind n frame i face k ≡ []
  unfolding any_of_kind faults_of_kind fault_at
  kind_empty k e = each_empty (has_fault n frame face k) (fault_at n frame i face k) 0 (positions_of n face k) (λ p h. rw h) e

  pub face_empty : any_fault n frame face ≡ false → faults_of_face n frame i face ≡ []
  unfolding any_fault faults_of_face
  face_empty e = each_empty (any_of_kind n frame face) (faults_of_kind n frame i face) 1 7 kind_empty e

module _ (frame : Frame) (i : ℕ) (cell : Cell) (count : ℕ) where
  any_kinds : any_of (has_cell_fault frame cell count) 8 2 ≡ any_cell_fault frame.dim cell count
  unfolding any_of has_cell_fault any_cell_fault
  any_kinds = rw (or-false (wrong_sides cell count))

  pub cell_empty : any_cell_fault frame.dim cell count ≡ false → faults_of_cell frame i cell count ≡ []
  unfolding faults_of_cell cell_fault_at
  cell_empty e = each_empty (has_cell_fault frame cell count) (cell_fault_at frame i cell count) 8 2 (λ k h. rw h) (any_kinds ∙ e)

-- no kind is looked for at more positions than there are places, two sides apart
pub few_positions : (n : ℕ) (face : Face) (k : ℕ) → 2 ≤ n → positions_of n face k ≤ n
unfolding positions_of looked_at
few_positions n face k h =
    split (leb 2 k && leb k 3)
    (λ p. rw (p, positions_of) (split (leb 2 face.count && leb face.count n) (λ q. rw (q, looked_at) (leb-true face.count n (and_split (leb 2 face.count) (leb face.count n) q).1)) (λ q. rw (q, looked_at) zero-le)))
    (λ p. rw (p, positions_of) (split (eqb k 4) (λ q. rw q h) (λ q. rw q (omega arith))))

module _ (n : ℕ) (frame : Frame) (face : Face) where
  -- of the nodes, or of the sides
  pub any_parts : (side_fault n frame face || node_fault n frame face) ≡ any_fault n frame face
  unfolding node_fault side_fault any_fault any_of
  any_parts =
      parts (any_of_kind n frame face 1) (any_of_kind n frame face 2) (any_of_kind n frame face 3)
      (any_of_kind n frame face 4 || (any_of_kind n frame face 5 || (any_of_kind n frame face 6 || (any_of_kind n frame face 7 || false))))
    where
      parts : (a b c d : Bool) → (d || (a || (b || (c || false)))) ≡ (a || (b || (c || d)))
      parts true b c true = refl
      parts true b c false = refl
      parts false true c true = refl
      parts false true c false = refl
      parts false false true true = refl
      parts false false true false = refl
      parts false false false true = refl
      parts false false false false = refl

  pub any_side : {b : Bool} → b ≡ side_fault n frame face → b ≡ true → true ≡ any_fault n frame face
  any_side e t = let q : side_fault n frame face ≡ true = sym e ∙ t in rw (← any_parts, q)

  pub any_node : {b r : Bool} → b ≡ side_fault n frame face → b ≡ false → r ≡ node_fault n frame face → r ≡ any_fault n frame face
  any_node e t p = let q : side_fault n frame face ≡ false = sym e ∙ t in rw (← any_parts, q) p
