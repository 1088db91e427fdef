-- A computed test decides a statement: each is shown once and serves both directions. Assumes nothing.
use Prim.Native.Nat.{ℕ, ◌≤◌, ◌<◌}
use mathlib.Core.Path.{◌≡◌, refl, sym}
use mathlib.Core.Logic.{◌⊎◌, inl, inr, ◌↔◌}
use mathlib.Core.Bool.{Bool, true, false, ◌&&◌, ◌||◌, not, false≢true}
use borrow.Author.Tests.{ltb-true, lt-ltb, leb-true, le-leb, eqb-true, eq-eqb, eqb-false, ne_eqb, not-true}
use lib.Dec.{ltb, leb, eqb}

pub and_split : (a b : Bool) → (a && b) ≡ true → (a ≡ true) × (b ≡ true)
and_split true b h = (refl, h)
and_split false b h = absurd (false≢true h)

pub and_join : {a b : Bool} → a ≡ true → b ≡ true → (a && b) ≡ true
and_join p q = rw (p, q)

pub or_split : (a b : Bool) → (a || b) ≡ true → (a ≡ true) ⊎ (b ≡ true)
or_split true b h = inl refl
or_split false b h = inr h

pub or_none : (a b : Bool) → (a || b) ≡ false → (a ≡ false) × (b ≡ false)
or_none true b h = absurd (false≢true (sym h))
or_none false b h = (refl, h)

pub or_left : {a : Bool} (b : Bool) → a ≡ true → (a || b) ≡ true
or_left b p = rw p

pub or_right : (a : Bool) {b : Bool} → b ≡ true → (a || b) ≡ true
or_right true p = refl
or_right false p = p

pub either_of : {A B C : Type 0} → A ⊎ B → (A → C) → (B → C) → C
either_of (inl a) f g = f a
either_of (inr b) f g = g b

abbrev pub Decides : Bool → Type 0 → Type 0
Decides b P = (b ≡ true → P) × (P → b ≡ true)

pub yes_is : Decides true Unit
yes_is = (λ e. tt, λ p. refl)

pub no_is : Decides false ⊥
no_is = (λ e. absurd (false≢true e), λ p. absurd p)

-- an equivalent statement
pub by : {b : Bool} {P Q : Type 0} → P ↔ Q → Decides b P → Decides b Q
by e d = (λ q. e.0 (d.0 q), λ h. d.1 (e.1 h))

module _ (a b : ℕ) where
  pub lt_is : Decides (ltb a b) (a < b)
  lt_is = (ltb-true a b, lt-ltb a b)

  pub le_is : Decides (leb a b) (a ≤ b)
  le_is = (leb-true a b, le-leb a b)

  pub eq_is : Decides (eqb a b) (a ≡ b)
  eq_is = (eqb-true a b, eq-eqb a b)

  pub ne_is : Decides (not (eqb a b)) (a ≡ b → ⊥)
  ne_is = (λ e. eqb-false a b (not-true _ e), λ n. rw (ne_eqb a b n))

pub and_is : {a b : Bool} {P Q : Type 0} → Decides a P → Decides b Q → Decides (a && b) (P × Q)
and_is {a} {b} p q = (λ e. let s = and_split a b e in (p.0 s.0, q.0 s.1), λ h. and_join (p.1 h.0) (q.1 h.1))

pub or_is : {a b : Bool} {P Q : Type 0} → Decides a P → Decides b Q → Decides (a || b) (P ⊎ Q)
or_is {a} {b} p q =
    (λ e. either_of (or_split a b e) (λ x. inl (p.0 x)) (λ y. inr (q.0 y)), λ h. either_of h (λ x. or_left b (p.1 x)) (λ y. or_right a (q.1 y)))

pub not_is : {a : Bool} {P : Type 0} → Decides a P → Decides (not a) (P → ⊥)
not_is {a = true} p = (λ e. absurd (false≢true e), λ n. absurd (n (p.0 refl)))
not_is {a = false} p = (λ e x. absurd (false≢true (p.1 x)), λ n. refl)
