-- [01:Tokens], said with no cursor: these bytes are these tokens. To be believed: all of this file. Assumes nothing.
use Rattle.std.specs.Prelude.{ℕ, suc, ◌+◌, ◌≡◌, List, [], ◌∷◌, ◌++◌, true, false, length}
use Rattle.tokens.specs.declared.Class.{Class}
use Rattle.tokens.specs.declared.Run.{Run}
use Rattle.tokens.specs.Tokens.{class_of, goes_on}
use Rattle.tokens.specs.Listed.{Tok, left, right, text, cut, word}

-- each byte goes on with the run
abbrev pub Goes : Run → List ℕ → Type 0
Goes k [] = Unit
Goes k (b ∷ w) = (goes_on k (class_of b) ≡ true) × Goes k w

-- the run ends before these bytes
abbrev pub Stops : Run → List ℕ → Type 0
Stops k [] = Unit
Stops k (b ∷ r) = goes_on k (class_of b) ≡ false

-- the bytes, of which the first is at i, are these tokens
pub data Text : ℕ → List ℕ → List Tok → Type 0 where
  nothing : {i : ℕ} → Text i [] []
  blank : {i b : ℕ} {r : List ℕ} {ts : List Tok} → class_of b ≡ Class.Blank → Text (suc i) r ts → Text i (b ∷ r) ts
  opened : {i b : ℕ} {r : List ℕ} {ts : List Tok} → class_of b ≡ Class.Left → Text (suc i) r ts → Text i (b ∷ r) (left i ∷ ts)
  shut : {i b : ℕ} {r : List ℕ} {ts : List Tok} → class_of b ≡ Class.Right → Text (suc i) r ts → Text i (b ∷ r) (right i ∷ ts)
  -- "a string (from `"` to the next `"`, any bytes between, no escapes)"
  string : {i b n : ℕ} {r rest : List ℕ} {ts : List Tok} (q : ℕ) (w : List ℕ)
      → class_of b ≡ Class.Quote → Goes Run.Text w → class_of q ≡ Class.Quote → r ≡ w ++ (q ∷ rest) → n ≡ suc (suc i + length w)
      → Text n rest ts → Text i (b ∷ r) (text i ∷ ts)
  -- "An unclosed string is a Grammar refusal at its opening quote."
  unclosed : {i b : ℕ} {w : List ℕ} → class_of b ≡ Class.Quote → Goes Run.Text w → Text i (b ∷ w) (cut i ∷ [])
  -- "a word (longest run of bytes that are not blanks, parentheses or quotes)"
  a_word : {i b n : ℕ} {r rest : List ℕ} {ts : List Tok} (w : List ℕ)
      → class_of b ≡ Class.Other → Goes Run.Word w → Stops Run.Word rest → r ≡ w ++ rest → n ≡ suc i + length w
      → Text n rest ts → Text i (b ∷ r) (word i (b ∷ w) ∷ ts)
