-- [01:Tokens], the tokens: what stands at a place of the file. To be believed: all of this file. Assumes nothing.
use Rattle.std.specs.Prelude.{ℕ, suc, ◌+◌, List, [], ◌∷◌, Bool, true, false, ◌||◌, not, length, get_or, drop, ltb, eqb}
use Rattle.tokens.specs.declared.Class.{Class}
use Rattle.tokens.specs.declared.Run.{Run}
use Rattle.tokens.specs.declared.Token.{Token}
use Rattle.tokens.specs.declared.Step.{Step}

-- "Blanks are bytes 32, 9, 10, 13."
abbrev pub is_blank : ℕ → Bool
is_blank b = eqb b 32 || (eqb b 9 || (eqb b 10 || eqb b 13))

-- "Tokens are `(`, `)`, a string (from `"` ..) and a word (.. bytes that are not blanks, parentheses or quotes)."
unfoldable pub class_of : ℕ → Class
class_of b =
    elim (is_blank b) [
      | true ↦ Class.Blank
      | false ↦
          elim (eqb b 40) [
            | true ↦ Class.Left
            | false ↦ elim (eqb b 41) [ true ↦ Class.Right | false ↦ elim (eqb b 34) [ true ↦ Class.Quote | false ↦ Class.Other ] ]
          ]
    ]

-- "from `"` to the next `"`, any bytes between, no escapes"; "longest run of bytes that are not blanks, parentheses or quotes":
-- does a byte of this class go on with the run
abbrev pub goes_on : Run → Class → Bool
goes_on Run.Blanks Class.Blank = true
goes_on Run.Blanks Class.Left = false
goes_on Run.Blanks Class.Right = false
goes_on Run.Blanks Class.Quote = false
goes_on Run.Blanks Class.Other = false
goes_on Run.Word Class.Blank = false
goes_on Run.Word Class.Left = false
goes_on Run.Word Class.Right = false
goes_on Run.Word Class.Quote = false
goes_on Run.Word Class.Other = true
goes_on Run.Text Class.Blank = true
goes_on Run.Text Class.Left = true
goes_on Run.Text Class.Right = true
goes_on Run.Text Class.Quote = false
goes_on Run.Text Class.Other = true
goes_on Run.Plain Class.Blank = true
goes_on Run.Plain Class.Left = false
goes_on Run.Plain Class.Right = false
goes_on Run.Plain Class.Quote = false
goes_on Run.Plain Class.Other = true

-- where the longest run ends; the list is what stands from i on
unfoldable pub run_end : Run → List ℕ → ℕ → ℕ
run_end k [] i = i
run_end k (b ∷ r) i = elim (goes_on k (class_of b)) [ true ↦ run_end k r (suc i) | false ↦ i ]

unfoldable pub run_at : Run → List ℕ → ℕ → ℕ
run_at k s i = run_end k (drop i s) i

-- where the first token at or behind a place starts
abbrev pub start_of : List ℕ → ℕ → ℕ
start_of s at = run_at Run.Blanks s at

-- where the first parenthesis or quote at or behind a place stands
abbrev pub mark_of : List ℕ → ℕ → ℕ
mark_of s at = run_at Run.Plain s at

-- where the first quote at or behind a place stands
abbrev pub quote_of : List ℕ → ℕ → ℕ
quote_of s at = run_at Run.Text s at

-- a word that reaches i ends there: no byte that goes on with it stands at i
unfoldable pub ends_word : List ℕ → ℕ → Bool
ends_word s i = elim (ltb i (length s)) [ true ↦ not (goes_on Run.Word (class_of (get_or s i 0))) | false ↦ true ]

-- a token that starts at i, and n behind it
abbrev pub step_of : Token → ℕ → ℕ → Step
step_of t i n = record { token = t; start = i; next = record { at = n } }

-- "An unclosed string is a Grammar refusal at its opening quote": a token of its own, at its quote i. Its bytes end at e
unfoldable pub text_to : List ℕ → ℕ → ℕ → Step
text_to s i e = elim (ltb e (length s)) [ true ↦ step_of Token.Text i (e + 1) | false ↦ step_of Token.Unclosed i e ]

-- the token whose first byte, of this class, is at i. A blank never is: see token_at
unfoldable pub token_of : Class → List ℕ → ℕ → Step
token_of Class.Blank s i = step_of Token.Word i (i + 1)
token_of Class.Left s i = step_of Token.Left i (i + 1)
token_of Class.Right s i = step_of Token.Right i (i + 1)
token_of Class.Quote s i = text_to s i (run_at Run.Text s (i + 1))
token_of Class.Other s i = step_of Token.Word i (run_at Run.Word s (i + 1))

-- "The end of the file is a token whose offset is the file's length."
unfoldable pub token_from : List ℕ → ℕ → Step
token_from s i = elim (ltb i (length s)) [ true ↦ token_of (class_of (get_or s i 0)) s i | false ↦ step_of Token.End (length s) (length s) ]

-- the first token at or behind `at`: "with any blanks or none around them"
unfoldable pub token_at : List ℕ → ℕ → Step
token_at s at = token_from s (start_of s at)
