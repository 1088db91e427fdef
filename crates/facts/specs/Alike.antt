-- "It is shown that no second answer could satisfy the same contract" [01:What the proofs have to nail], for an answer that holds a place: the contract leaves open how many of the blanks there are passed.
use Rattle.std.specs.Prelude.{◌≡◌}

-- any two answers stand for the same: `view` reads what an answer stands for
abbrev pub Alike {k ℓ} : {K : Type k} {A R X : K → Type ℓ} {W : Type 0} → ((κ : K) → A κ → R κ → W) → ((κ : K) → A κ → R κ → X κ → Type 0) → Type (k ⊔ ℓ)
Alike {K} {A} {R} {X} {W} view P = (κ : K) (a : A κ) (r r' : R κ) (x x' : X κ) → P κ a r x → P κ a r' x' → view κ a r ≡ view κ a r'
