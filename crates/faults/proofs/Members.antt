-- What stands on the list of one face and of one cell, exactly, and in which order. Assumes nothing.
use Prim.Native.Nat.{ℕ, ◌≤◌, ◌<◌}
use native.Mathlib.Omega.{arith}
use mathlib.Core.Path.{◌≡◌, refl, sym, ap, ◌∙◌}
use mathlib.Core.List.Memᴰ
use mathlib.Core.List.{[], ◌∷◌, Memᴰ}
use mathlib.Core.Bool.{Bool, true, false}
use borrow.Author.Tests.{lt-ltb, le-ltb}
use Rattle.mesh.specs.declared.Face.{Face}
use Rattle.mesh.specs.declared.Cell.{Cell}
use Rattle.records.specs.declared.Fault.{Fault}
use Rattle.records.specs.Record.{fault}
use Rattle.faults.specs.declared.Frame.{Frame}
use Rattle.faults.specs.Faults.{positions_of, has_fault, fault_if, fault_at, faults_of_kind, faults_of_face, has_cell_fault, cell_extra, cell_fault_at, faults_of_cell}
use Rattle.faults.specs.Order.{stage_of, kind, extra, Sorted, none, more}
use Rattle.faults.proofs.Over.{each_in, in_each}
use Rattle.faults.proofs.Order.{sorted_each}

in_if : (b : Bool) (f x : Fault) → Memᴰ x (fault_if b f) → (b ≡ true) × (x ≡ f)
in_if true f x m = (refl, only m)
  where
    only : {x y : Fault} → Memᴰ x (y ∷ []) → x ≡ y
    only (Memᴰ.head e) = e
    only (Memᴰ.tail n) = absurd (Memᴰ.not-nil n)
in_if false f x m = absurd (Memᴰ.not-nil m)

if_in : (b : Bool) (f : Fault) → b ≡ true → Memᴰ f (fault_if b f)
if_in b f e = rw e (Memᴰ.head refl)

sorted_if : (b : Bool) (f : Fault) → Sorted (fault_if b f)
sorted_if true f = more (λ y m. absurd (Memᴰ.not-nil m)) none
sorted_if false f = none

-- faults of faces are of the first stage, faults of cells of the second
pub first_stage : (k : ℕ) → k < 8 → stage_of k ≡ 0
first_stage k h = rw (lt-ltb k 8 h, stage_of)

pub second_stage : (k : ℕ) → 8 ≤ k → stage_of k ≡ 1
second_stage k h = rw (le-ltb k 8 h, stage_of)

module _ (n : ℕ) (frame : Frame) (i : ℕ) (face : Face) where
  pub record OfFace (x : Fault) : Type 0 where
    pub index : x.index ≡ i
    pub low : 1 ≤ x.kind
    pub high : x.kind ≤ 7
    pub within : x.extra < positions_of n face x.kind
    pub has : has_fault n frame face x.kind x.extra ≡ true

  record OfKind (k : ℕ) (x : Fault) : Type 0 where
    is : x ≡ fault k i x.extra
    within : x.extra < positions_of n face k
    has : has_fault n frame face k x.extra ≡ true

  at_is : (k p : ℕ) (x : Fault) → Memᴰ x (fault_at n frame i face k p) → (has_fault n frame face k p ≡ true) × (x ≡ fault k i p)
  unfolding fault_at
  at_is k p x m = in_if _ _ x m

  kind_in_lem : (k : ℕ) (x : Fault) → Memᴰ x (faults_of_kind n frame i face k) → OfKind k x
  unfolding faults_of_kind
  kind_in_lem k x m =
      let r = each_in (fault_at n frame i face k) 0 (positions_of n face k) m in
      let e = at_is k r.at x r.there in
      let p : x.extra ≡ r.at = ap (λ (f : Fault). f.extra) e.1 in
      record { is = e.1 ∙ ap (fault k i) (sym p); within = rw p (omega (arith, r.high)); has = rw p e.0 }

  in_kind : (k : ℕ) (x : Fault) → OfKind k x → Memᴰ x (faults_of_kind n frame i face k)
  unfolding faults_of_kind fault_at
  in_kind k x o =
      in_each (fault_at n frame i face k) 0 (positions_of n face k) x.extra (omega arith) (omega (arith, o.within))
      (Memᴰ.cast o.is (if_in _ _ o.has))

  sorted_kind : (k : ℕ) → Sorted (faults_of_kind n frame i face k)
  unfolding faults_of_kind fault_at
  sorted_kind k =
      sorted_each (fault_at n frame i face k) 0 (positions_of n face k) (λ p. sorted_if (has_fault n frame face k p) (fault k i p))
      (λ p q x y l h u a b.
      let e = (at_is k p x a).1 in
      let f = (at_is k q y b).1 in
      rw (e, f) (extra refl refl h))

  pub face_in_lem : (x : Fault) → Memᴰ x (faults_of_face n frame i face) → OfFace x
  unfolding faults_of_face
  face_in_lem x m =
      let r = each_in (faults_of_kind n frame i face) 1 7 m in
      let o = kind_in_lem r.at x r.there in
      let k : x.kind ≡ r.at = ap (λ (f : Fault). f.kind) o.is in
      record {
        index = ap (λ (f : Fault). f.index) o.is;
        low = omega (arith, r.low, k);
        high = omega (arith, r.high, k);
        within = rw k o.within;
        has = rw k o.has;
      }

  pub in_face : (x : Fault) → OfFace x → Memᴰ x (faults_of_face n frame i face)
  unfolding faults_of_face
  in_face x o =
      in_each (faults_of_kind n frame i face) 1 7 x.kind o.low (omega (arith, o.high))
      (in_kind x.kind x (record { is = ap (λ (j : ℕ). fault x.kind j x.extra) o.index; within = o.within; has = o.has }))

  pub sorted_face : Sorted (faults_of_face n frame i face)
  unfolding faults_of_face
  sorted_face =
      sorted_each (faults_of_kind n frame i face) 1 7 sorted_kind
      (λ j k x y l h u a b.
      let e = (kind_in_lem j x a).is in
      let f = (kind_in_lem k y b).is in
      rw (e, f) (kind (first_stage j (omega arith) ∙ sym (first_stage k (omega arith))) refl h))

module _ (frame : Frame) (i : ℕ) (cell : Cell) (count : ℕ) where
  pub record OfCell (x : Fault) : Type 0 where
    pub index : x.index ≡ i
    pub low : 8 ≤ x.kind
    pub high : x.kind ≤ 9
    pub tells : x.extra ≡ cell_extra count x.kind
    pub has : has_cell_fault frame cell count x.kind ≡ true

  cell_is : (k : ℕ) (x : Fault) → Memᴰ x (cell_fault_at frame i cell count k)
      → (has_cell_fault frame cell count k ≡ true) × (x ≡ fault k i (cell_extra count k))
  unfolding cell_fault_at
  cell_is k x m = in_if _ _ x m

  pub cell_in_lem : (x : Fault) → Memᴰ x (faults_of_cell frame i cell count) → OfCell x
  unfolding faults_of_cell
  cell_in_lem x m =
      let r = each_in (cell_fault_at frame i cell count) 8 2 m in
      let e = cell_is r.at x r.there in
      let k : x.kind ≡ r.at = ap (λ (f : Fault). f.kind) e.1 in
      record {
        index = ap (λ (f : Fault). f.index) e.1;
        low = omega (arith, r.low, k);
        high = omega (arith, r.high, k);
        tells = rw k (ap (λ (f : Fault). f.extra) e.1);
        has = rw k e.0;
      }

  pub in_cell : (x : Fault) → OfCell x → Memᴰ x (faults_of_cell frame i cell count)
  unfolding faults_of_cell cell_fault_at
  in_cell x o =
      let e : x ≡ fault x.kind i (cell_extra count x.kind) =
      ap (λ (j : ℕ). fault x.kind j x.extra) o.index ∙ ap (λ (j : ℕ). fault x.kind i j) o.tells
      in
      in_each (cell_fault_at frame i cell count) 8 2 x.kind o.low (omega (arith, o.high)) (Memᴰ.cast e (if_in _ _ o.has))

  pub sorted_cell : Sorted (faults_of_cell frame i cell count)
  unfolding faults_of_cell cell_fault_at
  sorted_cell =
      sorted_each (cell_fault_at frame i cell count) 8 2 (λ k. sorted_if (has_cell_fault frame cell count k) (fault k i (cell_extra count k)))
      (λ j k x y l h u a b.
      let e = (cell_is j x a).1 in
      let f = (cell_is k y b).1 in
      rw (e, f) (kind (second_stage j l ∙ sym (second_stage k (omega arith))) refl h))
