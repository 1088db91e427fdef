-- Lists of items: one item more, one among them, a part of them; and kinds. Assumes nothing.
use Prim.Native.Nat.{◌+◌}
use native.Mathlib.Omega.{arith}
use mathlib.Core.Path.{◌≡◌, refl, sym, ◌∙◌, ap}
use mathlib.Core.Logic.{◌⊎◌, inl, inr, ◌↔◌}
use mathlib.Core.List.Memᴰ
use mathlib.Core.List.{List, [], ◌∷◌, ◌++◌, Memᴰ}
use mathlib.Core.Bool.{Bool, true, false, false≢true}
use Rattle.facts.proofs.Decides.{Decides, by, either_of}
use Rattle.layout.specs.Items.{Kind, node, cell, face, Item, dim, decl, part, other}
use Rattle.layout.specs.Keeps.{All, Some, parts_in}
use Rattle.layout.specs.Rows.{same_kind}

-- ---- one item more
pub all_more : (P : Item → Type 0) (i : Item) (is : List Item) → (P i × All P is) ↔ All P (is ++ (i ∷ []))
all_more P i [] = (λ h. h, λ h. h)
all_more P i (x ∷ is) = let r = all_more P i is in (λ h. (h.1.0, r.0 (h.0, h.1.1)), λ h. let k = r.1 h.1 in (k.0, (h.0, k.1)))

pub some_more : (P : Item → Type 0) (i : Item) (is : List Item) → (P i ⊎ Some P is) ↔ Some P (is ++ (i ∷ []))
some_more P i [] = (λ h. h, λ h. h)
some_more P i (x ∷ is) =
    let r = some_more P i is in (
      λ h. either_of h (λ p. inr (r.0 (inl p))) (λ s. either_of s (λ p. inl p) (λ s. inr (r.0 (inr s)))),
      λ h. either_of h (λ p. inr (inl p)) (λ s. either_of (r.1 s) (λ p. inl p) (λ s. inr (inr s))),
    )

module _ (before : List Item) (P : Item → Type 0) {b : Bool} (i : Item) where
  -- an item that says nothing of it
  pub kept : P i → Decides b (All P before) → Decides b (All P (before ++ (i ∷ [])))
  kept p d = by (all_more P i before) (λ q. (p, d.0 q), λ h. d.1 h.1)

  pub none : (P i → ⊥) → Decides b (Some P before) → Decides b (Some P (before ++ (i ∷ [])))
  none n d = by (some_more P i before) (λ q. inr (d.0 q), λ h. either_of h (λ p. absurd (n p)) d.1)

-- ---- one among them
pub all_at : (P : Item → Type 0) (x : Item) (is : List Item) → All P is → Memᴰ x is → P x
all_at P x [] a m = absurd (Memᴰ.not-nil m)
all_at P x (y ∷ is) a m = either_of (Memᴰ.cases_cons m) (λ z. rw z a.0) (λ n. all_at P x is a.1 n)

pub some_at : (P : Item → Type 0) (before : List Item) (i : Item) (rest : List Item) → P i → Some P (before ++ (i ∷ rest))
some_at P [] i rest p = inl p
some_at P (j ∷ before) i rest p = inr (some_at P before i rest p)

some_before : (P : Item → Type 0) (before rest : List Item) → Some P before → Some P (before ++ rest)
some_before P [] rest s = absurd s
some_before P (i ∷ is) rest (inl p) = inl p
some_before P (i ∷ is) rest (inr s) = inr (some_before P is rest s)

pub lifted : (P : Item → Type 0) (before rest : List Item) {is : List Item} → is ≡ before ++ rest → Some P before → Some P is
lifted P before rest e s = rw e (some_before P before rest s)

pub parted : {x : Item} {is : List Item} → Memᴰ x is → (before : List Item) × (rest : List Item) × (is ≡ before ++ (x ∷ rest))
parted {is = []} m = absurd (Memᴰ.not-nil m)
parted {x} {is = i ∷ is} m = either_of (Memᴰ.cases_cons m) (λ e. ([], is, rw e)) (λ n. let r = parted n in (i ∷ r.0, r.1, ap (λ l. i ∷ l) r.2))

-- ---- how many regular sections
pub parts_append : (is js : List Item) → parts_in (is ++ js) ≡ parts_in is + parts_in js
parts_append [] js = omega arith
parts_append (dim n ∷ is) js = parts_append is js
parts_append (decl k h ∷ is) js = parts_append is js
parts_append (part k h b ∷ is) js = omega (arith, parts_append is js)
parts_append (other ∷ is) js = parts_append is js

-- ---- kinds
pub same_true : (j k : Kind) → same_kind j k ≡ true → j ≡ k
same_true node node e = refl
same_true node cell e = absurd (false≢true e)
same_true node face e = absurd (false≢true e)
same_true cell node e = absurd (false≢true e)
same_true cell cell e = refl
same_true cell face e = absurd (false≢true e)
same_true face node e = absurd (false≢true e)
same_true face cell e = absurd (false≢true e)
same_true face face e = refl

pub same_self : (j : Kind) → same_kind j j ≡ true
same_self node = refl
same_self cell = refl
same_self face = refl

pub kinds_differ : {j k : Kind} → same_kind j k ≡ false → j ≡ k → ⊥
kinds_differ {j} {k} e q = false≢true (sym e ∙ rw q (same_self k))
