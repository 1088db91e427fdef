-- The list of all faults: everything on it is a fault, every fault is on it, it is in the stated order, none stands twice. Assumes nothing.
use Prim.Native.Nat.{ℕ, ◌-◌, ◌≤◌, ◌<◌}
use native.Mathlib.Omega.{arith}
use mathlib.Core.Path.{◌≡◌, sym, ◌∙◌}
use mathlib.Core.Logic.{⊎_elim}
use mathlib.Core.List.Memᴰ
use mathlib.Core.List.{List, ◌++◌, Memᴰ}
use lib.ListN.{length, get_or}
use Rattle.mesh.specs.Rows.{face_at, cell_at}
use Rattle.records.specs.declared.Fault.{Fault}
use Rattle.faults.specs.Over.{each}
use Rattle.faults.specs.Sides.{Tables, frame_of, count_of}
use Rattle.faults.specs.Wrong.{Wrong}
use Rattle.faults.specs.Order.{Before, stage, index, Sorted}
use Rattle.faults.proofs.Over.{each_in, in_each}
use Rattle.faults.proofs.Order.{sorted_append, sorted_each, sorted_before, sorted_once}
use Rattle.faults.proofs.Members.{first_stage, second_stage, face_in_lem, in_face, sorted_face, cell_in_lem, in_cell, sorted_cell}
use Rattle.faults.proofs.Tests.{Dimension}
use Rattle.faults.proofs.Exactly.{FaceFault, CellFault, face_sound, cell_sound, Found, of_face, of_cell, complete}
use Rattle.faults.specs.All.{face_faults, cell_faults, all_faults}

module _ (n : ℕ) (t : Tables) where
  abbrev pub of_faces : List Fault
  of_faces = each (face_faults n (frame_of t) t.face_rows) 1 t.faces

  abbrev pub of_cells : List Fault
  of_cells = each (cell_faults (frame_of t) t.cell_rows (count_of n t)) 1 t.cells

  pub of_faces_lem : (x : Fault) → Memᴰ x of_faces → (f : ℕ) × ((1 ≤ f) × (f ≤ t.faces)) × FaceFault n t f x
  of_faces_lem x m =
      let r = each_in (face_faults n (frame_of t) t.face_rows) 1 t.faces m in
      (r.at, (r.low, omega (arith, r.high)), face_in_lem n (frame_of t) r.at _ x r.there)

  pub of_cells_lem : (x : Fault) → Memᴰ x of_cells → (c : ℕ) × ((1 ≤ c) × (c ≤ t.cells)) × CellFault n t c x
  of_cells_lem x m =
      let r = each_in (cell_faults (frame_of t) t.cell_rows (count_of n t)) 1 t.cells m in
      (r.at, (r.low, omega (arith, r.high)), cell_in_lem (frame_of t) r.at _ _ x r.there)

  -- everything on the list is a fault
  pub all_sound : Dimension t.dim → (x : Fault) → Memᴰ x (all_faults n t) → Wrong n t x
  unfolding all_faults
  all_sound d x m =
      ⊎_elim
      (λ a. let r = of_faces_lem x a in face_sound n t d r.0 r.1 x r.2)
      (λ b. let r = of_cells_lem x b in cell_sound n t d r.0 r.1 x r.2)
      (Memᴰ.append_cases of_faces m)

  -- every fault is on the list
  pub all_complete : (x : Fault) → Wrong n t x → Memᴰ x (all_faults n t)
  unfolding all_faults
  all_complete x w = place x (complete n t x w)
    where
      place : (x : Fault) → Found n t x → Memᴰ x (of_faces ++ of_cells)
      place x (of_face f w o) =
          Memᴰ.append_left of_cells
          (in_each (face_faults n (frame_of t) t.face_rows) 1 t.faces f w.0 (omega (arith, w.1)) (in_face n (frame_of t) f (face_at n t.face_rows (f - 1)) x o))
      place x (of_cell c w o) =
          Memᴰ.append_right of_faces
          (in_each (cell_faults (frame_of t) t.cell_rows (count_of n t)) 1 t.cells c w.0 (omega (arith, w.1)) (in_cell (frame_of t) c (cell_at t.cell_rows (c - 1)) (count_of n t c) x o))

  sorted_faces : Sorted of_faces
  sorted_faces =
      sorted_each (face_faults n (frame_of t) t.face_rows) 1 t.faces (λ f. sorted_face n (frame_of t) f _)
      (λ j k x y l h u a b.
      let p = face_in_lem n (frame_of t) j _ x a in
      let q = face_in_lem n (frame_of t) k _ y b in
      index (first_stage x.kind (omega (arith, p.high)) ∙ sym (first_stage y.kind (omega (arith, q.high)))) (omega (arith, p.index, q.index)))

  sorted_cells : Sorted of_cells
  sorted_cells =
      sorted_each (cell_faults (frame_of t) t.cell_rows (count_of n t)) 1 t.cells (λ c. sorted_cell (frame_of t) c _ _)
      (λ j k x y l h u a b.
      let p = cell_in_lem (frame_of t) j _ _ x a in
      let q = cell_in_lem (frame_of t) k _ _ y b in
      index (second_stage x.kind p.low ∙ sym (second_stage y.kind q.low)) (omega (arith, p.index, q.index)))

  -- the list is in the stated order
  pub all_sorted : Sorted (all_faults n t)
  unfolding all_faults
  all_sorted =
      sorted_append sorted_faces sorted_cells
      (λ x y a b.
      let p = (of_faces_lem x a).2 in
      let q = (of_cells_lem y b).2 in
      let e = first_stage x.kind (omega (arith, p.high)) in
      let f = second_stage y.kind q.low in
      stage (omega (arith, e, f)))

  -- as positions say it: each stands before all behind it
  pub all_rising : (z : Fault) (i j : ℕ) → i < j → j < length (all_faults n t) → Before (get_or (all_faults n t) i z) (get_or (all_faults n t) j z)
  all_rising z i j = sorted_before all_sorted z i j

  -- none stands twice
  pub all_once : (z : Fault) (i j : ℕ) → i < j → j < length (all_faults n t) → get_or (all_faults n t) i z ≡ get_or (all_faults n t) j z → ⊥
  all_once z i j = sorted_once all_sorted z i j
