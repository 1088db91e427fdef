-- "It is shown that no second answer could satisfy the same contract" [01:What the proofs have to nail].
use Rattle.std.specs.Prelude.{◌≡◌}

-- P is a contract as the checker reads it: lifetimes, arguments, answer, and the lent values at exit. This is for a function that is lent nothing to write.
abbrev pub Only {k ℓ} : {K : Type k} {A R X : K → Type ℓ} → ((κ : K) → A κ → R κ → X κ → Type 0) → Type (k ⊔ ℓ)
Only {K} {A} {R} {X} P = (κ : K) (a : A κ) (r r' : R κ) (x x' : X κ) → P κ a r x → P κ a r' x' → r ≡ r'
