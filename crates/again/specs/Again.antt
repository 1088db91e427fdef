-- The second pass over a file: what holds of a thing that is read, and what is taken where a thing may stand or not. Steps of the code, which no mesher need read. Assumes nothing.
use Rattle.std.specs.Prelude.{ℕ, zero, suc, ◌≡◌, List, [], ◌∷◌}
use Rattle.tokens.specs.Listed.{Tok, tokens_from}
use Rattle.layout.specs.Reading.{Got, got, bad, Reader}

-- what holds of a thing that is read
abbrev pub Then : {A : Type 0} → Got A → (A → List Tok → Type 0) → Type 0
Then (got a us) P = P a us
Then (bad w o) P = Unit

-- where a thing is read, P holds of it, and behind it come the tokens from `to` on
abbrev pub Steps : {A : Type 0} → List ℕ → ℕ → Got A → (A → Type 0) → Type 0
Steps s to g P = Then g (λ a us. P a × (tokens_from s to ≡ us))

-- ---- whatever stands there
-- what is taken at a place, and the place behind it
pub record Taken (P A : Type 0) : Type 0 where
  pub thing : A
  pub next : P

-- n times, one behind the other
unfoldable pub many : {P A : Type 0} → (P → Taken P A) → ℕ → P → Taken P (List A)
many f zero p = record { thing = []; next = p }
many f (suc n) p = record { thing = (f p).thing ∷ (many f n (f p).next).thing; next = (many f n (f p).next).next }

-- where a thing is read, it is the one that f takes; `view` gives the tokens from a place on
abbrev pub Takes : {P A : Type 0} → (P → List Tok) → (P → Taken P A) → Reader A → Type 0
Takes {P = P} view f r = (p : P) → Then (r (view p)) (λ a us. ((f p).thing ≡ a) × (view (f p).next ≡ us))
