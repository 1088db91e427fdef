-- "It is shown that no second answer could satisfy the same contract" [01:What the proofs have to nail], for a function that is lent something to write.
use Rattle.std.specs.Prelude.{◌≡◌}

-- neither a second answer nor a second content: `left` reads what is held at exit
abbrev pub OnlyLeft {k ℓ} : {K : Type k} {A R X : K → Type ℓ} {L : Type 0} → ((κ : K) → X κ → L) → ((κ : K) → A κ → R κ → X κ → Type 0) → Type (k ⊔ ℓ)
OnlyLeft {K} {A} {R} {X} {L} left P = (κ : K) (a : A κ) (r r' : R κ) (x x' : X κ) → P κ a r x → P κ a r' x' → (r ≡ r') × (left κ x ≡ left κ x')
