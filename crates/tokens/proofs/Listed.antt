-- The tokens from a place on are the token there and the tokens from behind it on; a file has at most as many as bytes. Assumes nothing.
use Prim.Native.Nat.{ℕ, zero, suc, ◌-◌, ◌≤◌, ◌<◌}
use native.Mathlib.Omega.{arith}
use mathlib.Core.Path.{◌≡◌, refl, ◌∙◌, ap}
use mathlib.Core.List.{List, ◌∷◌}
use lib.Dec.{T}
use lib.ListN.{length, take, drop}
use Rattle.tokens.specs.declared.Token.{Token}
use Rattle.tokens.specs.declared.Step.{Step}
use Rattle.tokens.specs.Tokens.{token_at}
use Rattle.tokens.specs.Listed.{Tok, left, right, text, word, tok_then, step_then, tokens_in, tokens_from}
use Rattle.tokens.proofs.Bounds.{solid, Moved, token_moves, end_start}

module _ (s : List ℕ) where
  same_then : (k : Token) (i n : ℕ) (ts us : List Tok) → (T (solid k) → ts ≡ us) → tok_then k s i n ts ≡ tok_then k s i n us
  same_then Token.Left i n ts us h = ap (λ l. left i ∷ l) (h tt)
  same_then Token.Right i n ts us h = ap (λ l. right i ∷ l) (h tt)
  same_then Token.Text i n ts us h = ap (λ l. text i ∷ l) (h tt)
  same_then Token.Word i n ts us h = ap (λ l. word i (take (n - i) (drop i s)) ∷ l) (h tt)
  same_then Token.Unclosed i n ts us h = refl
  same_then Token.End i n ts us h = refl

  -- any two counts that suffice give the same list
  tokens_enough : (n m at : ℕ) → length s - at < n → length s - at < m → tokens_in n s at ≡ tokens_in m s at
  unfolding tokens_in
  tokens_enough zero m at p q = absurd (omega arith)
  tokens_enough (suc n) zero at p q = absurd (omega arith)
  tokens_enough (suc n) (suc m) at p q =
      same_then (token_at s at).token _ _ _ _ λ h. let v = token_moves s at h in tokens_enough n m _ (omega arith) (omega arith)

  pub tokens_step : (at : ℕ) → tokens_from s at ≡ step_then (token_at s at) s (tokens_from s (token_at s at).next.at)
  unfolding tokens_from tokens_in
  tokens_step at =
      same_then (token_at s at).token _ _ _ _ λ h.
      let v = token_moves s at h in
      tokens_enough (length s) (suc (length s)) _ (omega arith) (omega arith)

  then_length : (k : Token) (i n : ℕ) (ts : List Tok) (m : ℕ) → (T (solid k) → length ts < m) → length (tok_then k s i n ts) ≤ m
  then_length Token.Left i n ts m h = h tt
  then_length Token.Right i n ts m h = h tt
  then_length Token.Text i n ts m h = h tt
  then_length Token.Word i n ts m h = h tt
  then_length Token.Unclosed i n ts m h = let z = h tt in omega arith
  then_length Token.End i n ts m h = omega arith

  length_in : (n at : ℕ) → length (tokens_in n s at) ≤ length s - at
  unfolding tokens_in
  length_in zero at = omega arith
  length_in (suc n) at =
      then_length (token_at s at).token _ _ _ _ λ h.
      let v = token_moves s at h in
      let z = length_in n (token_at s at).next.at in
      omega arith

  -- no more tokens than bytes are left
  pub tokens_length : (at : ℕ) → length (tokens_from s at) ≤ length s - at
  unfolding tokens_from
  tokens_length at = length_in (suc (length s)) at

-- the code has read a token of this kind at `at`
module _ (s : List ℕ) (at : ℕ) (t : Step) (k : Token) (e : t ≡ token_at s at) (q : t.token ≡ k) where
  pub tokens_kind : tokens_from s at ≡ tok_then k s t.start t.next.at (tokens_from s t.next.at)
  tokens_kind = tokens_step s at ∙ rw (← e, q)

  pub moved : T (solid k) → Moved at (length s) t
  moved h = rw e (token_moves s at (rw (← e, q) h))

-- and it was the end
pub ended : (s : List ℕ) (at : ℕ) (t : Step) → t ≡ token_at s at → t.token ≡ Token.End → t.start ≡ length s
ended s at t e q = rw e (end_start s at (rw (← e) q))
