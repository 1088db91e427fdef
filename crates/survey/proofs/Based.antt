-- The tokens behind a `(` are those from the byte behind it on. Assumes nothing.
use Prim.Native.Nat.{ℕ, zero, suc, ◌-◌, ◌<◌}
use native.Mathlib.Omega.{arith}
use native.Mathlib.Numerals.{add-one}
use mathlib.Core.Path.{◌≡◌, refl, sym, ap, subst}
use mathlib.Core.List.{List, [], ◌∷◌}
use lib.Dec.{T, ltb, eqb}
use lib.ListN.{length, get_or}
use Rattle.facts.proofs.Branch.{either}
use Rattle.tokens.specs.declared.Token.{Token}
use Rattle.tokens.specs.declared.Step.{Step}
use Rattle.tokens.specs.Tokens.{is_blank, class_of, start_of, text_to, token_of, token_from, token_at}
use Rattle.tokens.specs.Listed.{Tok, left, right, text, cut, word, tok_then, tokens_from}
use Rattle.tokens.proofs.Bounds.{solid, token_moves}
use Rattle.tokens.proofs.Listed.{tokens_step}
use Rattle.layout.proofs.Behind.{Behind, all, on}

-- ---- a `(` is one byte
abbrev starts_left : Token → ℕ
starts_left Token.Left = 1
starts_left Token.Right = 0
starts_left Token.Text = 0
starts_left Token.Word = 0
starts_left Token.Unclosed = 0
starts_left Token.End = 0

abbrev One : Step → Type 0
One t = t.token ≡ Token.Left → t.next.at ≡ suc t.start

no_left : {A : Type 0} (k : Token) → starts_left k ≡ 0 → k ≡ Token.Left → A
no_left k z e = absurd (let y : starts_left k ≡ 1 = ap starts_left e in omega arith)

module _ (s : List ℕ) where
  text_one : (i e : ℕ) → One (text_to s i e)
  unfolding text_to
  text_one i e = either One (ltb e (length s)) (λ _ q. no_left Token.Text refl q) (λ _ q. no_left Token.Unclosed refl q)

  of_one : (b i : ℕ) → One (token_of (class_of b) s i)
  unfolding class_of token_of
  of_one b i =
      either (λ k. One (token_of k s i)) (is_blank b) (λ _ q. no_left Token.Word refl q)
      (λ _. either (λ k. One (token_of k s i)) (eqb b 40) (λ _ q. add-one i)
      (λ _. either (λ k. One (token_of k s i)) (eqb b 41) (λ _ q. no_left Token.Right refl q)
      (λ _. either (λ k. One (token_of k s i)) (eqb b 34) (λ _ q. text_one i _ q) (λ _ q. no_left Token.Word refl q))))

  from_one : (i : ℕ) → One (token_from s i)
  unfolding token_from
  from_one i = either One (ltb i (length s)) (λ _ q. of_one (get_or s i 0) i q) (λ _ q. no_left Token.End refl q)

  at_one : (at : ℕ) → One (token_at s at)
  unfolding token_at
  at_one at = from_one (start_of s at)

  -- the code has read a `(`
  pub left_next : (at : ℕ) (t : Step) → t ≡ token_at s at → t.token ≡ Token.Left → t.next.at ≡ suc t.start
  left_next at t e q = subst One (sym e) (at_one at) q

  -- ---- of each `(` among these tokens
  abbrev pub Based : List Tok → Type 0
  Based [] = Unit
  Based (left o ∷ ts) = (ts ≡ tokens_from s (suc o)) × Based ts
  Based (right o ∷ ts) = Based ts
  Based (text o ∷ ts) = Based ts
  Based (cut o ∷ ts) = Based ts
  Based (word o w ∷ ts) = Based ts

  pub based_behind : {us ts : List Tok} → Behind us ts → Based ts → Based us
  based_behind all b = b
  based_behind (on {t} {ts = ts} p) b = based_behind p (tail t ts b)
    where
      tail : (t : Tok) (ts : List Tok) → Based (t ∷ ts) → Based ts
      tail (left o) ts b = b.1
      tail (right o) ts b = b
      tail (text o) ts b = b
      tail (cut o) ts b = b
      tail (word o w) ts b = b

  then_based : (k : Token) (i n : ℕ) (ts : List Tok) → (T (solid k) → Based ts) → (k ≡ Token.Left → ts ≡ tokens_from s (suc i)) → Based (tok_then k s i n ts)
  then_based Token.Left i n ts h g = (g refl, h tt)
  then_based Token.Right i n ts h g = h tt
  then_based Token.Text i n ts h g = h tt
  then_based Token.Word i n ts h g = h tt
  then_based Token.Unclosed i n ts h g = tt
  then_based Token.End i n ts h g = tt

  based_in : (n at : ℕ) → length s - at < n → Based (tokens_from s at)
  based_in zero at l = absurd (omega arith)
  based_in (suc n) at l =
      subst Based (sym (tokens_step s at))
      (then_based (token_at s at).token _ _ _ (λ h. let v = token_moves s at h in based_in n _ (omega arith)) (λ q. ap (tokens_from s) (at_one at q)))

  pub tokens_based : (at : ℕ) → Based (tokens_from s at)
  tokens_based at = based_in (suc (length s - at)) at (omega arith)
