-- The faults that the tests find are those that `Wrong` names: of one face, of one cell, both ways. Assumes nothing.
use Prim.Native.Nat.{ℕ, zero, suc, ◌-◌, ◌≤◌, ◌<◌}
use native.Mathlib.Omega.{arith}
use mathlib.Core.Path.{◌≡◌, refl, ap}
use mathlib.Core.Bool.{true}
use borrow.Author.Tests.{eqb-true, eqb-false}
use lib.Dec.{eqb, lit<, lit≤}
use lib.ListN.{length}
use Rattle.facts.proofs.Branch.{split}
use Rattle.facts.proofs.Decides.{lt_is}
use Rattle.mesh.proofs.Rows.{face_at_nodes}
use Rattle.records.specs.declared.Fault.{Fault}
use Rattle.records.specs.Record.{fault}
use Rattle.faults.specs.Faults.{positions_of, has_fault, has_cell_fault, cell_extra, node_at, side_of}
use Rattle.faults.specs.Sides.{Tables, frame_of, face_in, cell_in, count_of}
use Rattle.faults.specs.Wrong.{Wrong, count, node, again, beyond, same, open_side, loose, element, sides, Within, Looked}
use Rattle.faults.proofs.Tests.{Dimension}
use Rattle.faults.proofs.Members.{OfFace, OfCell}
use Rattle.faults.proofs.Tests

module _ (n : ℕ) (t : Tables) where
  abbrev pub FaceFault : ℕ → Fault → Type 0
  FaceFault f x = OfFace n (frame_of t) f (face_in n t f) x

  abbrev pub CellFault : ℕ → Fault → Type 0
  CellFault c x = OfCell (frame_of t) c (cell_in t c) (count_of n t c) x

  module _ (d : Dimension t.dim) (f : ℕ) (w : Within f t.faces) where
    at_zero : (k p : ℕ) → p < 1 → Wrong n t (fault k f 0) → Wrong n t (fault k f p)
    at_zero k p h x = let e : p ≡ 0 = omega arith in rw e x

    by_kind : (k p : ℕ) → 1 ≤ k → k ≤ 7 → p < positions_of n (face_in n t f) k → has_fault n (frame_of t) (face_in n t f) k p ≡ true → Wrong n t (fault k f p)
    unfolding positions_of has_fault
    by_kind zero p l u h b = absurd (omega arith)
    by_kind (suc zero) p l u h b = at_zero 1 p h (count f w ((Tests.count_is n t.dim _ d).0 b))
    by_kind (suc (suc zero)) p l u h b =
        node f p w (Tests.looked_is n (face_in n t f) p h) ((Tests.node_is t.nodes (node_at (face_in n t f) p)).0 b)
    by_kind (suc (suc (suc zero))) p l u h b =
        let e = Tests.earlier_is (node_at (face_in n t f) p) (face_in n t f).nodes p b in
        again f p e.at w (Tests.looked_is n (face_in n t f) p h) e.before e.same
    by_kind (suc (suc (suc (suc zero)))) p l u h b = beyond f p w h ((lt_is t.cells (side_of (face_in n t f) p)).0 b)
    by_kind (suc (suc (suc (suc (suc zero))))) p l u h b =
        let s = (Tests.same_is t.cells (face_in n t f)).0 b in
        at_zero 5 p h (same f w s.0 s.1)
    by_kind (suc (suc (suc (suc (suc (suc zero)))))) p l u h b =
        let s = (Tests.open_is t.cells (face_in n t f)).0 b in
        at_zero 6 p h (open_side f w s.0 s.1.0 s.1.1)
    by_kind (suc (suc (suc (suc (suc (suc (suc zero))))))) p l u h b =
        let s = (Tests.loose_is t.cells (face_in n t f)).0 b in
        at_zero 7 p h (loose f w s.0 s.1.0 s.1.1)
    by_kind (suc (suc (suc (suc (suc (suc (suc (suc k)))))))) p l u h b = absurd (omega arith)

    -- what is found of a face is a fault
    pub face_sound : (x : Fault) → FaceFault f x → Wrong n t x
    face_sound x o = rw (ap (λ (i : ℕ). fault x.kind i x.extra) o.index) (by_kind x.kind x.extra o.low o.high o.within o.has)

  module _ (d : Dimension t.dim) (c : ℕ) (w : Within c t.cells) where
    eighth : has_cell_fault (frame_of t) (cell_in t c) (count_of n t c) 8 ≡ true → Wrong n t (fault 8 c 0)
    unfolding has_cell_fault
    eighth b = element c w ((Tests.element_is t.dim _ d).0 b)

    ninth : has_cell_fault (frame_of t) (cell_in t c) (count_of n t c) 9 ≡ true → Wrong n t (fault 9 c (count_of n t c))
    unfolding has_cell_fault
    ninth b = let s = (Tests.sides_is (cell_in t c) (count_of n t c)).0 b in sides c w s.0 s.1.0 s.1.1

    by_cell_kind : (k e : ℕ) → 8 ≤ k → k ≤ 9 → e ≡ cell_extra (count_of n t c) k
        → has_cell_fault (frame_of t) (cell_in t c) (count_of n t c) k ≡ true → Wrong n t (fault k c e)
    by_cell_kind k e l u q b =
        split (eqb k 8)
        (λ s. let v = eqb-true k 8 s in rw (q, v) (eighth (rw v at b)))
        (λ s. let z = eqb-false k 8 s in let v : k ≡ 9 = nine z in rw (q, v) (ninth (rw v at b)))
      where
        nine : (k ≡ 8 → ⊥) → k ≡ 9
        nine z = omega arith

    pub cell_sound : (x : Fault) → CellFault c x → Wrong n t x
    cell_sound x o = rw (ap (λ (i : ℕ). fault x.kind i x.extra) o.index) (by_cell_kind x.kind x.extra o.low o.high o.tells o.has)

  -- a fault is found at its face or its cell
  pub data Found (x : Fault) : Type 0 where
    of_face : (f : ℕ) → Within f t.faces → FaceFault f x → Found x
    of_cell : (c : ℕ) → Within c t.cells → CellFault c x → Found x

  at_face : (k f p : ℕ) → 1 ≤ k → k ≤ 7 → Within f t.faces → p < positions_of n (face_in n t f) k
      → has_fault n (frame_of t) (face_in n t f) k p ≡ true → Found (fault k f p)
  at_face k f p l u w h b = of_face f w (record { index = refl; low = l; high = u; within = h; has = b })

  at_cell : (k c : ℕ) → 8 ≤ k → k ≤ 9 → Within c t.cells
      → has_cell_fault (frame_of t) (cell_in t c) (count_of n t c) k ≡ true → Found (fault k c (cell_extra (count_of n t c) k))
  at_cell k c l u w b = of_cell c w (record { index = refl; low = l; high = u; tells = refl; has = b })

  all_there : (f p : ℕ) → Looked n (face_in n t f) p → p ≤ length (face_in n t f).nodes
  all_there f p l = omega (arith, face_at_nodes n t.face_rows (f - 1), l.high, l.before)

  -- every fault is found
  pub complete : (x : Fault) → Wrong n t x → Found x
  unfolding positions_of has_fault has_cell_fault
  complete _ (count f w h) = at_face 1 f 0 (lit≤ tt) (lit≤ tt) w (lit< tt) ((Tests.count_is n t.dim _ (Tests.count_dimension n _ _ h)).1 h)
  complete _ (node f p w l h) = at_face 2 f p (lit≤ tt) (lit≤ tt) w (Tests.is_looked n (face_in n t f) p l) ((Tests.node_is t.nodes _).1 h)
  complete _ (again f p q w l h e) =
      at_face 3 f p (lit≤ tt) (lit≤ tt) w (Tests.is_looked n (face_in n t f) p l) (Tests.is_earlier_lem _ (face_in n t f).nodes p q (all_there f p l) h e)
  complete _ (beyond f s w h k) = at_face 4 f s (lit≤ tt) (lit≤ tt) w h ((lt_is t.cells (side_of (face_in n t f) s)).1 k)
  complete _ (same f w e z) = at_face 5 f 0 (lit≤ tt) (lit≤ tt) w (lit< tt) ((Tests.same_is t.cells (face_in n t f)).1 (e, z))
  complete _ (open_side f w h z s) = at_face 6 f 0 (lit≤ tt) (lit≤ tt) w (lit< tt) ((Tests.open_is t.cells (face_in n t f)).1 (h, (z, s)))
  complete _ (loose f w h r s) = at_face 7 f 0 (lit≤ tt) (lit≤ tt) w (lit< tt) ((Tests.loose_is t.cells (face_in n t f)).1 (h, (r, s)))
  complete _ (element c w h) = at_cell 8 c (lit≤ tt) (lit≤ tt) w ((Tests.element_is t.dim _ (Tests.element_dimension _ _ h)).1 h)
  complete _ (sides c w z e s) = at_cell 9 c (lit≤ tt) (lit≤ tt) w ((Tests.sides_is (cell_in t c) (count_of n t c)).1 (z, (e, s)))
