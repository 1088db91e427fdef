-- What holds of things that are read one behind the other. Assumes nothing.
use Prim.Native.Nat.{ℕ}
use mathlib.Core.Path.{◌≡◌, refl, subst}
use mathlib.Core.List.{List}
use mathlib.Core.Bool.{Bool, true, false}
use lib.ListN.{length}
use Rattle.tokens.specs.Listed.{Tok, tokens_from}
use Rattle.layout.specs.declared.Refusal.{Refusal}
use Rattle.layout.specs.Reading.{Got, got, bad, Reader, next, pure, check, rows_of, enclosed_of, left_of, right_of}
use Rattle.again.specs.Again.{Then, Steps}

-- ---- of what was read
pub then_more : {A : Type 0} (g : Got A) {P Q : A → List Tok → Type 0} → ((a : A) (us : List Tok) → P a us → Q a us) → Then g P → Then g Q
then_more (got a us) f h = f a us h
then_more (bad w o) f h = tt

pub then_always : {A : Type 0} (g : Got A) (P : Type 0) → P → Then g (λ a us. P)
then_always (got a us) P p = p
then_always (bad w o) P p = tt

pub then_is : {A : Type 0} {g : Got A} (P : A → List Tok → Type 0) (a : A) (us : List Tok) → g ≡ got a us → Then g P → P a us
then_is P a us e h = rw e at h

pub then_next : {A B : Type 0} (g : Got A) (f : A → Reader B) {P : A → List Tok → Type 0} (Q : B → List Tok → Type 0)
    → Then g P → ((a : A) (us : List Tok) → P a us → Then (f a us) Q) → Then (next g f) Q
then_next (got a us) f Q h k = k a us h
then_next (bad w o) f Q h k = tt

pub then_check : {A : Type 0} (b : Bool) (w : Refusal) (o : ℕ) (k : Reader A) (ts : List Tok) (Q : A → List Tok → Type 0)
    → (b ≡ true → Then (k ts) Q) → Then (check b w o k ts) Q
then_check true w o k ts Q h = h refl
then_check false w o k ts Q h = tt

-- the thing turned into another
pub then_pure : {A B : Type 0} (g : Got A) (f : A → B) {P : A → List Tok → Type 0} (Q : B → List Tok → Type 0)
    → Then g P → ((a : A) (us : List Tok) → P a us → Q (f a) us) → Then (next g (λ a. pure (f a))) Q
then_pure g f Q h k = then_next g (λ a. pure (f a)) Q h k

pub then_unmapped : {A B : Type 0} (g : Got A) (f : A → B) (P : B → List Tok → Type 0) → Then (next g (λ a. pure (f a))) P → Then g (λ a us. P (f a) us)
then_unmapped (got a us) f P h = h
then_unmapped (bad w o) f P h = tt

-- ---- from place to place
module _ {A : Type 0} (s : List ℕ) {g : Got A} (P : A → Type 0) where
  pub steps_got : (a : A) (n : ℕ) → got a (tokens_from s n) ≡ g → P a → Steps s n g P
  steps_got a n e p = subst (λ y. Then y (λ b us. P b × (tokens_from s n ≡ us))) e (p, refl)

  pub steps_bad : (to : ℕ) (w : Refusal) (o : ℕ) → bad w o ≡ g → Steps s to g P
  steps_bad to w o e = subst (λ y. Then y (λ b us. P b × (tokens_from s to ≡ us))) e tt

-- n things in a pair of parentheses of their own, the first of them at `to`
pub then_enclosed : {A : Type 0} (s : List ℕ) (to : ℕ) (ts : List Tok) (r : Reader A) (n : ℕ) (Q : List A → Type 0)
    → Steps s to (left_of (length s) ts) (λ u. Unit) → Then (rows_of (length s) r n (tokens_from s to)) (λ xs us. Q xs) → Then (enclosed_of (length s) r n ts) (λ xs us. Q xs)
then_enclosed s to ts r n Q h g =
    then_next (left_of (length s) ts) _ (λ xs us. Q xs) h
    (λ u us p. then_next (rows_of (length s) r n us) _ (λ xs vs. Q xs) (subst (λ vs. Then (rows_of (length s) r n vs) (λ xs us. Q xs)) p.1 g)
    (λ xs vs q. then_next (right_of (length s) vs) _ (λ ys ws. Q ys) (then_always (right_of (length s) vs) (Q xs) q) (λ o ws y. y)))
