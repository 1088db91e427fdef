-- Tests of the rows of cells and faces. Assumes nothing.
use Prim.Native.Nat.{ℕ, suc, ◌+◌, ◌-◌, ◌^◌, ◌≤◌, ◌<◌, min}
use lib.Dec.{leb}
use mathlib.Core.Path.{◌≡◌, refl, sym, ◌∙◌, ap}
use mathlib.Core.List.{List, [], ◌∷◌}
use mathlib.Core.Bool.{Bool, true, ◌&&◌}
use borrow.Author.Tests.{lt-ltb, leb-true, leb-false}
use lib.Dec.{eqb}
use native.Mathlib.Omega.{arith}
use native.Mathlib.Nat.{min-eq_left, min-eq_right}
use lib.ListN.{take, drop, get_or, drop_of_length-le}
use lib.Seq.{drop-drop}
use Rattle.std.proofs.lemmas.List.{drop-take, length-take}
use Rattle.facts.proofs.Branch.{split}
use Rattle.std.specs.List.{list_all}
use mir.Syntax.{w32}
use mir.Val.{Fits}
use Rattle.mesh.specs.Rows.{places}
use Rattle.texts.specs.Judged.{all_by, short_by, zero_by, count_by, face_by}

-- `all` of the library, as the definitions have it
pub all_is : {A : Type 0} (f : A → Bool) (xs : List A) → list_all f xs ≡ all_by f xs
unfolding all_by
all_is f [] = refl
all_is f (x ∷ xs) = ap (λ b. f x && b) (all_is f xs)

-- the places behind the nodes of a row
pub unused_is : (c used : ℕ) (r : List ℕ) → used ≡ min c places → take (5 - (1 + used)) (drop (1 + used) r) ≡ drop c (take places (drop 1 r))
unused_is c used r e =
    split (leb c places) (λ b. some (leb-true _ _ b)) (λ b. none (leb-false _ _ b))
  where
    some : c ≤ places → take (5 - (1 + used)) (drop (1 + used) r) ≡ drop c (take places (drop 1 r))
    some h =
        let y : used ≡ c = e ∙ min-eq_left h in
        let x : places ≡ c + (places - c) = omega arith in
        let w : 5 - (1 + c) ≡ places - c = omega arith in
        ap (λ (n : ℕ). take (5 - (1 + n)) (drop (1 + n) r)) y ∙ ap (λ (n : ℕ). take n (drop (1 + c) r)) w ∙ sym (ap (λ (n : ℕ). drop c (take n (drop 1 r))) x ∙ drop-take c (places - c) (drop 1 r) ∙ ap (take (places - c)) (drop-drop c 1 r))

    none : places < c → take (5 - (1 + used)) (drop (1 + used) r) ≡ drop c (take places (drop 1 r))
    none h =
        let y : 5 - (1 + used) ≡ 0 = omega (arith, e ∙ min-eq_right (omega arith)) in
        ap (λ (n : ℕ). take n (drop (1 + used) r)) y ∙ sym (drop_of_length-le (take places (drop 1 r)) {i = c} (omega (arith, length-take places (drop 1 r))))

-- words of 32 bits are short
shorts : (l : List ℕ) → ((i : ℕ) → get_or l i 0 < 2 ^ 32) → all_by short_by l ≡ true
unfolding all_by
shorts [] h = refl
shorts (x ∷ l) h = rw (lt-ltb x (16 ^ 8) (h 0)) (shorts l (λ i. h (suc i)))

pub face_is : (e t : ℕ) (r : List ℕ) → ((i : ℕ) → Fits w32 (get_or r i 0))
    → (count_by e (get_or r 0 0) && (list_all zero_by (drop (get_or r 0 0) (take places (drop 1 r))) && eqb (get_or r (places + 3) 0) t)) ≡ face_by e t r
unfolding face_by
face_is e t r h = rw (shorts r (λ i. (h i).fits), all_is zero_by (drop (get_or r 0 0) (take places (drop 1 r))))
