-- Tests joined: one where another holds, one over a list, and lists in which each keeps something. Assumes nothing.
use Prim.Native.Nat.{ℕ, zero, suc}
use mathlib.Core.List.Memᴰ
use mathlib.Core.List.{List, [], ◌∷◌, ◌++◌, Memᴰ}
use mathlib.Core.Bool.{Bool, ◌&&◌}
use lib.ListN.{take, replicate}
use Rattle.facts.proofs.Decides.{Decides, yes_is, and_is, and_split, and_join, either_of}
use Rattle.texts.specs.Writes.{Each}
use Rattle.texts.specs.Judged.{all_by}

-- the second is asked only where the first holds
pub and_then : {a b : Bool} {P Q : Type 0} → Decides a P → (P → Decides b Q) → Decides (a && b) (P × Q)
and_then {a} {b} p q = (λ e. let s = and_split a b e in let x = p.0 s.0 in (x, (q x).0 s.1), λ h. and_join (p.1 h.0) ((q h.0).1 h.1))

module _ {A : Type 0} (f : A → Bool) (P : A → Type 0) where
  pub each_is : (xs : List A) → Each (λ x. Decides (f x) (P x)) xs → Decides (all_by f xs) (Each P xs)
  unfolding all_by
  each_is [] d = yes_is
  each_is (x ∷ xs) d = and_is d.0 (each_is xs d.1)

  pub all_is : ((x : A) → Decides (f x) (P x)) → (xs : List A) → Decides (all_by f xs) (Each P xs)
  unfolding all_by
  all_is d [] = yes_is
  all_is d (x ∷ xs) = and_is (d x) (all_is d xs)

pub each_map : {A : Type 0} (P Q : A → Type 0) → ((x : A) → P x → Q x) → (l : List A) → Each P l → Each Q l
each_map P Q f [] h = tt
each_map P Q f (x ∷ l) h = (f x h.0, each_map P Q f l h.1)

module _ {A : Type 0} (P : A → Type 0) where
  pub each_taken : (n : ℕ) (l : List A) → Each P l → Each P (take n l)
  each_taken zero l h = tt
  each_taken (suc n) [] h = tt
  each_taken (suc n) (x ∷ l) h = (h.0, each_taken n l h.1)

  pub each_same : (n : ℕ) {x : A} → P x → Each P (replicate n x)
  each_same zero p = tt
  each_same (suc n) p = (p, each_same n p)

  pub each_append : (l r : List A) → Each P r → Each P l → Each P (l ++ r)
  each_append [] r q p = q
  each_append (x ∷ l) r q p = (p.0, each_append l r q p.1)

  pub each_parted : (l r : List A) → Each P (l ++ r) → Each P l × Each P r
  each_parted [] r h = (tt, h)
  each_parted (x ∷ l) r h = let s = each_parted l r h.1 in ((h.0, s.0), s.1)

  pub each_at : {x : A} (l : List A) → Each P l → Memᴰ x l → P x
  each_at [] h m = absurd (Memᴰ.not-nil m)
  each_at (y ∷ l) h m = either_of (Memᴰ.cases_cons m) (λ e. rw e h.0) (λ n. each_at l h.1 n)
