-- Each test of the table decides its sentence. Over the number of node places. Assumes nothing.
use Prim.Native.Nat.{ℕ, zero, suc, ◌≤◌, ◌<◌}
use native.Mathlib.Omega.{arith}
use mathlib.Core.Path.{◌≡◌, refl, sym}
use mathlib.Core.List.{List, [], ◌∷◌}
use mathlib.Core.Bool.{Bool, true, false}
use mathlib.Core.Logic.{◌⊎◌, inl, inr, ⊎_elim}
use borrow.Author.Tests.{eq-eqb, ne_eqb}
use lib.Dec.{eqb}
use lib.ListN.{length, take, get_or}
use Rattle.facts.proofs.Branch.{either, differ}
use Rattle.facts.proofs.Decides.{Decides, eq_is, lt_is, le_is, and_is, or_is, not_is}
use Rattle.mesh.specs.declared.Face.{Face}
use Rattle.mesh.specs.declared.Cell.{Cell}
use Rattle.faults.specs.Faults.{looked_at, wrong_count, wrong_node, is_in, is_same, interior, is_open, is_loose, wrong_element, sides_for, wrong_sides}
use Rattle.faults.specs.Wrong.{Not, Within, Looked, WrongCount, WrongElement}

-- flat or solid
abbrev pub Dimension : ℕ → Type 0
Dimension dim = (dim ≡ 2) ⊎ (dim ≡ 3)

-- a test by the dimension decides what the two cases decide
module _ (a b : Bool) (P Q : Type 0) (p : Decides a P) (q : Decides b Q) where
  by_dimension : (dim : ℕ) → Dimension dim → Decides (elim (eqb dim 2) [ true ↦ a | false ↦ b ]) (((dim ≡ 2) × P) ⊎ ((dim ≡ 3) × Q))
  by_dimension dim (inl e) =
      rw (eq-eqb dim 2 e)
      (λ h. inl (e, p.0 h), ⊎_elim (λ x. p.1 x.1) (λ x. absurd (omega (arith, x.0))))
  by_dimension dim (inr e) =
      rw (ne_eqb dim 2 (λ z. omega arith))
      (λ h. inr (e, q.0 h), ⊎_elim (λ x. absurd (omega (arith, x.0))) (λ x. q.1 x.1))

pub count_is : (n dim c : ℕ) → Dimension dim → Decides (wrong_count n dim c) (WrongCount n dim c)
unfolding wrong_count
count_is n dim c d = by_dimension _ _ _ _ (not_is (eq_is c 2)) (not_is (and_is (le_is 3 c) (le_is c n))) dim d

-- a wrong count or element has a dimension that it is wrong in
pub count_dimension : (n dim c : ℕ) → WrongCount n dim c → Dimension dim
count_dimension n dim c = ⊎_elim (λ x. inl x.0) (λ x. inr x.0)

pub element_dimension : (dim e : ℕ) → WrongElement dim e → Dimension dim
element_dimension dim e = ⊎_elim (λ x. inl x.0) (λ x. inr x.0)

-- the statement that is_in decides, for a list that is written out
abbrev pub In : ℕ → List ℕ → Type 0
In x [] = ⊥
In x (y ∷ l) = (y ≡ x) ⊎ In x l

pub in_is : (x : ℕ) (l : List ℕ) → Decides (is_in x l) (In x l)
unfolding is_in
in_is x [] = (λ h. differ false h refl, λ h. absurd h)
in_is x (y ∷ l) = or_is (eq_is y x) (in_is x l)

pub interior_is : (z : ℕ) → Decides (is_in z interior) ((z ≡ 2) ⊎ (z ≡ 1002))
interior_is z = (λ h. ⊎_elim (λ e. inl (sym e)) (⊎_elim (λ e. inr (sym e)) absurd) ((in_is z interior).0 h), λ h. (in_is z interior).1 (⊎_elim (λ e. inl (sym e)) (λ e. inr (inl (sym e))) h))

pub element_is : (dim e : ℕ) → Dimension dim → Decides (wrong_element dim e) (WrongElement dim e)
unfolding wrong_element
element_is dim e d =
    by_dimension _ _ _ _
    ((λ h. let w = (not_is (in_is e (1 ∷ 3 ∷ []))).0 h in (λ q. w (inl (sym q)), λ q. w (inr (inl (sym q)))), λ w. (not_is (in_is e (1 ∷ 3 ∷ []))).1 (⊎_elim (λ q. w.0 (sym q)) (⊎_elim (λ q. w.1 (sym q)) absurd))))
    ((
      λ h.
          let w = (not_is (in_is e (2 ∷ 4 ∷ 5 ∷ 6 ∷ []))).0 h in
          (λ q. w (inl (sym q)), (λ q. w (inr (inl (sym q))), (λ q. w (inr (inr (inl (sym q)))), λ q. w (inr (inr (inr (inl (sym q)))))))),
      λ w.
          (not_is (in_is e (2 ∷ 4 ∷ 5 ∷ 6 ∷ []))).1
          (⊎_elim (λ q. w.0 (sym q)) (⊎_elim (λ q. w.1.0 (sym q)) (⊎_elim (λ q. w.1.1.0 (sym q)) (⊎_elim (λ q. w.1.1.1 (sym q)) absurd)))),
    ))
    dim d

pub node_is : (nodes x : ℕ) → Decides (wrong_node nodes x) ((x ≡ 0) ⊎ (nodes < x))
node_is nodes x = or_is (eq_is x 0) (lt_is nodes x)

module _ (cells : ℕ) (face : Face) where
  pub same_is : Decides (is_same face) ((face.right ≡ face.left) × Not (face.right ≡ 0))
  same_is = and_is (eq_is face.right face.left) (not_is (eq_is face.right 0))

  pub open_is : Decides (is_open cells face)
      ((0 < cells) × (((face.ztype ≡ 2) ⊎ (face.ztype ≡ 1002)) × ((face.right ≡ 0) ⊎ (face.left ≡ 0))))
  open_is = and_is (lt_is 0 cells) (and_is (interior_is face.ztype) (or_is (eq_is face.right 0) (eq_is face.left 0)))

  pub loose_is : Decides (is_loose cells face) ((0 < cells) × ((face.right ≡ 0) × (face.left ≡ 0)))
  loose_is = and_is (lt_is 0 cells) (and_is (eq_is face.right 0) (eq_is face.left 0))

pub sides_is : (cell : Cell) (count : ℕ)
    → Decides (wrong_sides cell count) (Not (cell.ztype ≡ 0) × (Within cell.element 6 × Not (count ≡ sides_for cell.element)))
sides_is cell count =
    and_is (not_is (eq_is cell.ztype 0))
    (and_is (and_is (le_is 1 cell.element) (le_is cell.element 6)) (not_is (eq_is count (sides_for cell.element))))

-- positions of kinds 2 and 3
pub looked_is : (n : ℕ) (face : Face) (p : ℕ) → p < looked_at n face.count → Looked n face p
unfolding looked_at
looked_is n face p =
    either (λ (m : ℕ). p < m → Looked n face p) _
    (λ t h. let w = (and_is (le_is 2 face.count) (le_is face.count n)).0 t in record { low = w.0; high = w.1; before = h })
    (λ t h. absurd (omega arith))

pub is_looked : (n : ℕ) (face : Face) (p : ℕ) → Looked n face p → p < looked_at n face.count
unfolding looked_at
is_looked n face p l = rw ((and_is (le_is 2 face.count) (le_is face.count n)).1 (l.low, l.high), looked_at) l.before

-- an earlier position with the same node
pub record Earlier (x : ℕ) (l : List ℕ) (p : ℕ) : Type 0 where
  pub at : ℕ
  pub before : at < p
  pub same : get_or l at 0 ≡ x

one_on : {x y p : ℕ} {l : List ℕ} → Earlier x l p → Earlier x (y ∷ l) (suc p)
one_on e = record { at = suc e.at; before = omega (arith, e.before); same = e.same }

pub earlier_is : (x : ℕ) (l : List ℕ) (p : ℕ) → is_in x (take p l) ≡ true → Earlier x l p
unfolding is_in
earlier_is x l zero h = differ false h refl
earlier_is x [] (suc p) h = differ false h refl
earlier_is x (y ∷ l) (suc p) h =
    ⊎_elim (λ e. record { at = 0; before = omega arith; same = e }) (λ r. one_on (earlier_is x l p ((in_is x (take p l)).1 r)))
    ((or_is (eq_is y x) (in_is x (take p l))).0 h)

pub is_earlier_lem : (x : ℕ) (l : List ℕ) (p q : ℕ) → p ≤ length l → q < p → get_or l q 0 ≡ x → is_in x (take p l) ≡ true
unfolding is_in
is_earlier_lem x l zero q k h e = absurd (omega arith)
is_earlier_lem x [] (suc p) q k h e = absurd (omega arith)
is_earlier_lem x (y ∷ l) (suc p) zero k h e = (or_is (eq_is y x) (in_is x (take p l))).1 (inl e)
is_earlier_lem x (y ∷ l) (suc p) (suc q) k h e =
    (or_is (eq_is y x) (in_is x (take p l))).1 (inr ((in_is x (take p l)).0 (is_earlier_lem x l p q (omega arith) (omega arith) e)))
