-- The numbers among the tokens of a text. Assumes nothing.
use Rattle.std.specs.Prelude.{ℕ, ◌<◌, ◌≤◌, ◌≡◌, List, [], ◌∷◌, length, Option, Some, None}
use Rattle.facts.specs.declared.Taken.{Taken}
use Rattle.tokens.specs.Listed.{Tok, left, right, text, cut, word, tokens_from}
use Rattle.numbers.specs.Whole.{hexadecimal_of}

abbrev pub with_number : Option ℕ → List ℕ → List ℕ
with_number None vs = vs
with_number (Some v) vs = v ∷ vs

-- the words that are hexadecimal numbers, in order
unfoldable pub numbers_in : List Tok → List ℕ
numbers_in [] = []
numbers_in (left o ∷ ts) = numbers_in ts
numbers_in (right o ∷ ts) = numbers_in ts
numbers_in (text o ∷ ts) = numbers_in ts
numbers_in (cut o ∷ ts) = numbers_in ts
numbers_in (word o w ∷ ts) = with_number (hexadecimal_of w) (numbers_in ts)

-- what the loop needs of one turn: the numbers from a place on are that of the token there, if it is one, and those behind it
abbrev pub Next : List ℕ → ℕ → Option (Taken (Option ℕ)) → Type 0
Next s at None = numbers_in (tokens_from s at) ≡ []
Next s at (Some t) = (numbers_in (tokens_from s at) ≡ with_number t.value (numbers_in (tokens_from s t.next))) × (at < t.next) × (t.next ≤ length s)
