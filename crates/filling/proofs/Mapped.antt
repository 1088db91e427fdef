-- Rows read as things and rows read as words are the same rows. Assumes nothing.
use Rattle.std.specs.Prelude.{◌≡◌, ℕ, zero, suc, List, ◌∷◌, map}
use mathlib.Core.Path.{refl, ◌∙◌, ap, subst}
use Rattle.tokens.specs.Listed.{Tok}
use Rattle.layout.specs.Reading.{Got, got, bad, Reader, next, pure, rows_of, enclosed_of, left_of, right_of}
use Rattle.again.specs.Again.{Then}
use Rattle.again.proofs.Then.{then_unmapped}
use Rattle.rows.proofs.Good.{mapped}

module _ {A B : Type 0} (size : ℕ) (f : A → B) (r : Reader A) where
  rows_mapped : (n : ℕ) (ts : List Tok) → rows_of size (mapped f r) n ts ≡ mapped (map f) (rows_of size r n) ts
  unfolding rows_of
  rows_mapped zero ts = refl
  rows_mapped (suc n) ts = by (r ts) (λ us. rows_mapped n us)
    where
      each : (a : A) (g : Got (List A)) → next (next g (λ xs. pure (map f xs))) (λ ys. pure (f a ∷ ys)) ≡ next (next g (λ xs. pure (a ∷ xs))) (λ xs. pure (map f xs))
      each a (got xs us) = refl
      each a (bad w o) = refl

      by : (g : Got A) → ((us : List Tok) → rows_of size (mapped f r) n us ≡ mapped (map f) (rows_of size r n) us)
          → next (next g (λ a. pure (f a))) (λ b. λ us. next (rows_of size (mapped f r) n us) (λ ys. pure (b ∷ ys)))
          ≡ next (next g (λ a. λ us. next (rows_of size r n us) (λ xs. pure (a ∷ xs)))) (λ xs. pure (map f xs))
      by (got a us) h = ap (λ y. next y (λ ys. pure (f a ∷ ys))) (h us) ∙ each a (rows_of size r n us)
      by (bad w o) h = refl

  enclosed_mapped : (n : ℕ) (ts : List Tok) → enclosed_of size (mapped f r) n ts ≡ mapped (map f) (enclosed_of size r n) ts
  enclosed_mapped n ts = from (left_of size ts)
    where
      last : (xs : List A) (g : Got ℕ) → next g (λ _. pure (map f xs)) ≡ next (next g (λ _. pure xs)) (λ ys. pure (map f ys))
      last xs (got a us) = refl
      last xs (bad w o) = refl

      rest : (g : Got (List A)) → next (next g (λ xs. pure (map f xs))) (λ ys us. next (right_of size us) (λ _. pure ys))
          ≡ next (next g (λ xs us. next (right_of size us) (λ _. pure xs))) (λ xs. pure (map f xs))
      rest (got xs us) = last xs (right_of size us)
      rest (bad w o) = refl

      from : (g : Got Unit) → next g (λ _ us. next (rows_of size (mapped f r) n us) (λ ys vs. next (right_of size vs) (λ _. pure ys)))
          ≡ next (next g (λ _ us. next (rows_of size r n us) (λ xs vs. next (right_of size vs) (λ _. pure xs)))) (λ xs. pure (map f xs))
      from (got u us) = ap (λ y. next y (λ ys vs. next (right_of size vs) (λ _. pure ys))) (rows_mapped n us) ∙ rest (rows_of size r n us)
      from (bad w o) = refl

  pub enclosed_unmapped : (n : ℕ) (ts : List Tok) (Q : List B → Type 0) → Then (enclosed_of size (mapped f r) n ts) (λ xs us. Q xs) → Then (enclosed_of size r n ts) (λ xs us. Q (map f xs))
  enclosed_unmapped n ts Q h = then_unmapped (enclosed_of size r n ts) (map f) (λ ys us. Q ys) (subst (λ y. Then y (λ ys us. Q ys)) (enclosed_mapped n ts) h)
