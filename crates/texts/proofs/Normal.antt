-- Items that fit do so too when they are put in the writer's order: section 2, three declarations, the sections. Assumes nothing.
use Prim.Native.Nat.{ℕ, suc, ◌≤◌}
use native.Mathlib.Omega.{arith}
use mathlib.Core.Path.{◌≡◌, refl, sym, ◌∙◌, ap, subst}
use mathlib.Core.Logic.{◌⊎◌, inl, inr}
use mathlib.Core.List.{List, [], ◌∷◌, ◌++◌, append-nil, append_assoc}
use Rattle.sizes.specs.Sizes.{rows}
use Rattle.layout.specs.Items.{Kind, node, cell, face, id_of, Perhaps, absent, given, Header, Body, Item, dim, decl, part, other, says_dim}
use Rattle.layout.specs.Keeps.{Within, Room, room_for, All, Some, SaysDim, SameDim, Agrees, DimFits, Declares, Apart, Covers, parts_in, FifthOf, WidthFits, PartFits, Fits, Whole}
use Rattle.layout.specs.Rows.{Lent, element_in, zone_of, zones_of}
use Rattle.layout.proofs.Each.{Each, each_parted}
use Rattle.layout.proofs.Lists.{lifted}
use Rattle.texts.specs.Tabled.{body_of, fifth_of, head_of, section_for, parts_of, decl_of}
use Rattle.texts.proofs.Held.{part_is}

module _ (d : ℕ) (l : Lent) where
  abbrev pub normals : List Item → List Item
  normals [] = []
  normals (dim n ∷ is) = normals is
  normals (decl k h ∷ is) = normals is
  normals (part k h b ∷ is) = section_for k d l (zone_of k h) ∷ normals is
  normals (other ∷ is) = normals is

  pub parts_normal : (is : List Item) → parts_of d l (zones_of is) ≡ normals is
  parts_normal [] = refl
  parts_normal (dim n ∷ is) = parts_normal is
  parts_normal (decl k h ∷ is) = parts_normal is
  parts_normal (part k h b ∷ is) = λ i. part_is k d l (zone_of k h) refl i ∷ parts_normal is i
  parts_normal (other ∷ is) = parts_normal is

  normals_append : (is js : List Item) → normals (is ++ js) ≡ normals is ++ normals js
  normals_append [] js = refl
  normals_append (dim n ∷ is) js = normals_append is js
  normals_append (decl k h ∷ is) js = normals_append is js
  normals_append (part k h b ∷ is) js = ap (λ x. section_for k d l (zone_of k h) ∷ x) (normals_append is js)
  normals_append (other ∷ is) js = normals_append is js

  apart_normal : (k : Kind) (f t : ℕ) (is : List Item) → All (Apart k f t) is → All (Apart k f t) (normals is)
  apart_normal k f t [] h = tt
  apart_normal k f t (dim n ∷ is) h = apart_normal k f t is h.1
  apart_normal k f t (decl j g ∷ is) h = apart_normal k f t is h.1
  apart_normal k f t (part j g b ∷ is) h = (h.0, apart_normal k f t is h.1)
  apart_normal k f t (other ∷ is) h = apart_normal k f t is h.1

  covers_normal : (k : Kind) (i : ℕ) (is : List Item) → Some (Covers k i) is → Some (Covers k i) (normals is)
  covers_normal k i [] h = h
  covers_normal k i (dim n ∷ is) (inl h) = absurd h
  covers_normal k i (dim n ∷ is) (inr h) = covers_normal k i is h
  covers_normal k i (decl j g ∷ is) (inl h) = absurd h
  covers_normal k i (decl j g ∷ is) (inr h) = covers_normal k i is h
  covers_normal k i (part j g b ∷ is) (inl h) = inl h
  covers_normal k i (part j g b ∷ is) (inr h) = inr (covers_normal k i is h)
  covers_normal k i (other ∷ is) (inl h) = absurd h
  covers_normal k i (other ∷ is) (inr h) = covers_normal k i is h

  parts_in_lem : (is : List Item) → parts_in (normals is) ≡ parts_in is
  parts_in_lem [] = refl
  parts_in_lem (dim n ∷ is) = parts_in_lem is
  parts_in_lem (decl k h ∷ is) = parts_in_lem is
  parts_in_lem (part k h b ∷ is) = ap suc (parts_in_lem is)
  parts_in_lem (other ∷ is) = parts_in_lem is

  none_declared : (k : Kind) (t : ℕ) (is : List Item) → Some (Declares k t) (normals is) → ⊥
  none_declared k t [] h = h
  none_declared k t (dim n ∷ is) h = none_declared k t is h
  none_declared k t (decl j g ∷ is) h = none_declared k t is h
  none_declared k t (part j g b ∷ is) (inl h) = h
  none_declared k t (part j g b ∷ is) (inr h) = none_declared k t is h
  none_declared k t (other ∷ is) h = none_declared k t is h

  given_same : (n m : ℕ) → given n ≡ given m → m ≡ n
  given_same n m e = cc

  absent_not : {A : Type 0} (m : ℕ) → absent ≡ given m → A
  absent_not m e = absurd (let z : ◌≡◌ {A = ℕ} 0 1 = cc in omega arith)

  kind_dim : (k : Kind) (h : Header) (m : ℕ) → SaysDim m (section_for k d l (zone_of k h)) → m ≡ d
  kind_dim node h m e = given_same d m e
  kind_dim cell h m e = absent_not m e
  kind_dim face h m e = absent_not m e

  dims_normal : (is : List Item) → All (SameDim d) (normals is)
  dims_normal [] = tt
  dims_normal (dim n ∷ is) = dims_normal is
  dims_normal (decl k h ∷ is) = dims_normal is
  dims_normal (part k h b ∷ is) = (kind_dim k h, dims_normal is)
  dims_normal (other ∷ is) = dims_normal is

  module _ (totals : Kind → ℕ) where
    abbrev pub front : List Item → List Item
    front is = dim d ∷ decl_of node (totals node) d ∷ decl_of cell (totals cell) 0 ∷ decl_of face (totals face) 0 ∷ is

    module _ (room : Room) (listed : (d ≡ 2) ⊎ (d ≡ 3)) where
      agrees : (is : List Item) → Agrees (front (normals is)) d
      agrees is =
          record { listed = listed; same = (λ m e. given_same d m e, (λ m e. given_same d m e, (λ m e. absent_not m e, (λ m e. absent_not m e, dims_normal is)))) }

      declared_in : (k : Kind) (is : List Item) → Some (Declares k (totals k)) (front is)
      declared_in node is = inr (inl (refl, refl))
      declared_in cell is = inr (inr (inl (refl, refl)))
      declared_in face is = inr (inr (inr (inl (refl, refl))))

      fifth_normal : (k : Kind) (v : Perhaps) → FifthOf k v → FifthOf k (given (fifth_of k d (element_in k v)))
      fifth_normal node v h = tt
      fifth_normal cell absent h = absurd h
      fifth_normal cell (given e) h = h
      fifth_normal face absent h = absurd h
      fifth_normal face (given e) h = h

      dim_normal : (k : Kind) (h : Header) (is : List Item) → DimFits (front (normals is)) (says_dim (section_for k d l (zone_of k h)))
      dim_normal node h is = agrees is
      dim_normal cell h is = tt
      dim_normal face h is = tt

      width_normal : (k : Kind) (h : Header) (is : List Item) → WidthFits is (section_for k d l (zone_of k h)) (body_of k d l (head_of k d (zone_of k h)))
      width_normal node h is = inl refl
      width_normal cell h is = tt
      width_normal face h is = tt

      part_fits : (before : List Item) (k : Kind) (h : Header) (b : Body) → ((t : ℕ) → Some (Declares k t) before → t ≡ totals k)
          → PartFits room before k h b → Fits room (front (normals before)) (section_for k d l (zone_of k h))
      part_fits before k h b only f =
          record {
            total = totals k;
            declared = declared_in k (normals before);
            zone = f.zone;
            low = f.low;
            order = f.order;
            high = omega (arith, f.high, only f.total f.declared);
            apart = (tt, (tt, (tt, (tt, apart_normal k h.first h.last before f.apart))));
            type = f.type;
            fifth = fifth_normal k h.fifth f.fifth;
            dimension = dim_normal k h before;
            width = width_normal k h (front (normals before));
            few = omega (arith, f.few, parts_in_lem before);
            roomy = rw (parts_in_lem before) f.roomy;
          }

      -- the dimension and the declarations fit, whatever comes behind
      pub front_each : ((k : Kind) → totals k ≤ rows) → ((k : Kind) → Within (room_for room k) (totals k)) → (is : List Item) → Each room (front []) is → Each room [] (front is)
      front_each small roomy is e = (
        record { listed = listed; same = tt },
        (
          record { once = (tt, tt); first = refl; small = small node; roomy = roomy node; dimension = record { listed = listed; same = (λ m e. given_same d m e, tt) } },
          (
            record { once = (tt, (node_cell, tt)); first = refl; small = small cell; roomy = roomy cell; dimension = tt },
            (record { once = (tt, (node_face, (cell_face, tt))); first = refl; small = small face; roomy = roomy face; dimension = tt }, e),
          ),
        ),
      )
        where
          node_cell : node ≡ cell → ⊥
          node_cell q = let z : ◌≡◌ {A = ℕ} 10 12 = ap id_of q in omega arith

          node_face : node ≡ face → ⊥
          node_face q = let z : ◌≡◌ {A = ℕ} 10 13 = ap id_of q in omega arith

          cell_face : cell ≡ face → ⊥
          cell_face q = let z : ◌≡◌ {A = ℕ} 12 13 = ap id_of q in omega arith

      module _ (all : List Item) (only : (k : Kind) (t : ℕ) → Some (Declares k t) all → t ≡ totals k) where
        each_normal : (before is : List Item) → all ≡ before ++ is → Each room before is → Each room (front (normals before)) (normals is)
        each_normal before [] q e = tt
        each_normal before (dim n ∷ is) q e = subst (λ x. Each room (front x) (normals is)) (normals_append before (dim n ∷ []) ∙ append-nil (normals before)) (each_normal _ is (q ∙ sym (append_assoc before (dim n ∷ []) is)) e.1)
        each_normal before (decl k g ∷ is) q e = subst (λ x. Each room (front x) (normals is)) (normals_append before (decl k g ∷ []) ∙ append-nil (normals before)) (each_normal _ is (q ∙ sym (append_assoc before (decl k g ∷ []) is)) e.1)
        each_normal before (part k g b ∷ is) q e = (
          part_fits before k g b (λ t y. only k t (lifted (Declares k t) before (part k g b ∷ is) q y)) e.0,
          subst (λ x. Each room (front x) (normals is)) (normals_append before (part k g b ∷ [])) (each_normal _ is (q ∙ sym (append_assoc before (part k g b ∷ []) is)) e.1),
        )
        each_normal before (other ∷ is) q e = subst (λ x. Each room (front x) (normals is)) (normals_append before (other ∷ []) ∙ append-nil (normals before)) (each_normal _ is (q ∙ sym (append_assoc before (other ∷ []) is)) e.1)

        pub all_fit : ((k : Kind) → totals k ≤ rows) → ((k : Kind) → Within (room_for room k) (totals k)) → Each room [] all
            → (before : List Item) (i : Item) (after : List Item) → front (normals all) ≡ before ++ (i ∷ after) → Fits room before i
        all_fit small roomy e = each_parted room [] (front (normals all)) (front_each small roomy (normals all) (each_normal [] all refl e))

    -- ---- the whole
    front_total : (k : Kind) (t : ℕ) (is : List Item) → Some (Declares k t) (front (normals is)) → totals k ≡ t
    front_total k t is (inl h) = absurd h
    front_total k t is (inr (inl h)) = rw (← h.0) h.1
    front_total k t is (inr (inr (inl h))) = rw (← h.0) h.1
    front_total k t is (inr (inr (inr (inl h)))) = rw (← h.0) h.1
    front_total k t is (inr (inr (inr (inr h)))) = absurd (none_declared k t is h)

    pub all_whole : (is : List Item) → ((k : Kind) (i : ℕ) → 1 ≤ i → i ≤ totals k → Some (Covers k i) is) → Whole (front (normals is))
    all_whole is tiled =
        record {
          nodes = totals node;
          faces = totals face;
          dimension = d;
          nodes_declared = inr (inl (refl, refl));
          faces_declared = inr (inr (inr (inl (refl, refl))));
          known = inl refl;
          tiled = λ k t h i l m. inr (inr (inr (inr (covers_normal k i is (tiled k i l (omega (arith, front_total k t is h)))))));
        }
