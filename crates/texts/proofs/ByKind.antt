-- What is chosen by a record's section id. Assumes nothing.
use Prim.Native.Nat.{ℕ}
use native.Mathlib.Omega.{arith}
use mathlib.Core.Path.{◌≡◌, sym, ◌∙◌}
use mathlib.Core.Bool.{Bool, true, false}
use borrow.Author.Tests.{eqb-true, eqb-false, eq-eqb, ne_eqb}
use lib.Dec.{eqb}
use Rattle.facts.proofs.Branch.{either}
use Rattle.facts.proofs.Decides.{Decides, no_is, by}
use Rattle.layout.specs.Items.{Kind, node, cell, face, id_of}
use Rattle.texts.specs.Tabled.{by_kind}

pub all_kinds : (P : Kind → Type 0) → P node → P cell → P face → (k : Kind) → P k
all_kinds P a b c node = a
all_kinds P a b c cell = b
all_kinds P a b c face = c

module _ {A : Type 0} (f : Kind → A) (none : A) (id : ℕ) where
  pub kind_is : (k : Kind) → id ≡ id_of k → by_kind id f none ≡ f k
  kind_is node e = rw (eq-eqb id 10 e, by_kind)
  kind_is cell e = rw (ne_eqb id 10 (λ n. omega arith), eq-eqb id 12 e, by_kind)
  kind_is face e = rw (ne_eqb id 10 (λ n. omega arith), ne_eqb id 12 (λ n. omega arith), eq-eqb id 13 e, by_kind)

  pub kind_none : ((k : Kind) → id ≡ id_of k → ⊥) → by_kind id f none ≡ none
  kind_none n = rw (ne_eqb id 10 (n node), ne_eqb id 12 (n cell), ne_eqb id 13 (n face), by_kind)

-- no two kinds have the same id
pub kind_same : (id : ℕ) (j k : Kind) → id ≡ id_of j → id ≡ id_of k → j ≡ k
kind_same id j k p q = sym (kind_is (λ i. i) node id j p) ∙ kind_is (λ i. i) node id k q

-- a test by the kind, that no other id passes
pub kind_test : (f : Kind → Bool) (id : ℕ) (P : Type 0) → ((k : Kind) → id ≡ id_of k → Decides (f k) P) → (((k : Kind) → id ≡ id_of k → ⊥) → P → ⊥)
    → Decides (by_kind id f false) P
kind_test f id P some none =
    either (λ b. Decides b P) (eqb id 10) (λ e. some node (eqb-true id 10 e)) (λ a.
    either (λ b. Decides b P) (eqb id 12) (λ e. some cell (eqb-true id 12 e)) (λ b.
    either (λ b. Decides b P) (eqb id 13) (λ e. some face (eqb-true id 13 e)) (λ c.
    by (λ x. absurd x, none (all_kinds (λ k. id ≡ id_of k → ⊥) (eqb-false id 10 a) (eqb-false id 12 b) (eqb-false id 13 c))) no_is)))

-- a test that holds was that of a kind
pub record Chosen (f : Kind → Bool) (id : ℕ) : Type 0 where
  pub kind : Kind
  pub is : id ≡ id_of kind
  pub holds : f kind ≡ true

pub chosen : (f : Kind → Bool) (id : ℕ) → by_kind id f false ≡ true → Chosen f id
chosen f id =
    let P : Bool → Type 0 = λ b. b ≡ true → Chosen f id in
    either P (eqb id 10) (λ e h. record { kind = node; is = eqb-true id 10 e; holds = h })
    (λ _. either P (eqb id 12) (λ e h. record { kind = cell; is = eqb-true id 12 e; holds = h })
    (λ _. either P (eqb id 13) (λ e h. record { kind = face; is = eqb-true id 13 e; holds = h }) (λ _ h. absurd (no_is.0 h))))
