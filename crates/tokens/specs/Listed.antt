-- [01:Tokens], the file as the list of all its tokens. The end of the file is the end of the list. Assumes nothing.
use Rattle.std.specs.Prelude.{ℕ, zero, suc, ◌-◌, List, [], ◌∷◌, length, take, drop}
use Rattle.tokens.specs.declared.Token.{Token}
use Rattle.tokens.specs.declared.Step.{Step}
use Rattle.tokens.specs.Tokens.{token_at}

-- a token with its offset, a word with its bytes; `cut` is an unclosed string
pub data Tok : Type 0 where
  left right text cut : ℕ → Tok
  word : ℕ → List ℕ → Tok

-- the token from i to n, and then ts. Nothing comes behind an unclosed string
abbrev pub tok_then : Token → List ℕ → ℕ → ℕ → List Tok → List Tok
tok_then Token.Left s i n ts = left i ∷ ts
tok_then Token.Right s i n ts = right i ∷ ts
tok_then Token.Text s i n ts = text i ∷ ts
tok_then Token.Word s i n ts = word i (take (n - i) (drop i s)) ∷ ts
tok_then Token.Unclosed s i n ts = cut i ∷ []
tok_then Token.End s i n ts = []

abbrev pub step_then : Step → List ℕ → List Tok → List Tok
step_then t s ts = tok_then t.token s t.start t.next.at ts

-- at most n tokens
unfoldable pub tokens_in : ℕ → List ℕ → ℕ → List Tok
tokens_in zero s at = []
tokens_in (suc n) s at = step_then (token_at s at) s (tokens_in n s (token_at s at).next.at)

-- the tokens from a place on: no file has more than one for each byte
unfoldable pub tokens_from : List ℕ → ℕ → List Tok
tokens_from s at = tokens_in (suc (length s)) s at

abbrev pub tokens_of : List ℕ → List Tok
tokens_of s = tokens_from s 0
