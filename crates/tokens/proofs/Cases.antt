-- Closed texts with their tokens: one table, one claim. Behind it closed cases of the functions that only our own crates call: the right answer, and what a wrong program would have answered there. Assumes nothing.
use Prim.Native.Nat.{ℕ}
use mathlib.Core.Path.{◌≡◌, refl}
use mathlib.Core.List.{List, [], ◌∷◌, map}
use mathlib.Core.Bool.{true, false, ◌||◌, not}
use lib.ListN.{get_or}
use lib.Dec.{eqb}
use Rattle.facts.specs.Text.{bytes}
use Rattle.tokens.specs.declared.Run.{Run}
use Rattle.tokens.specs.declared.Token.{Token}
use Rattle.tokens.specs.Tokens.{is_blank, class_of, goes_on, run_end, run_at, start_of, mark_of, quote_of, ends_word, step_of, text_to, token_of, token_from, token_at}
use Rattle.tokens.specs.Listed.{Tok, left, right, text, cut, word, tokens_in, tokens_from, tokens_of}
use Rattle.tokens.proofs.Cursor.new.Reads as news

pub record Case : Type 0 where
  pub given : List ℕ
  pub tokens : List Tok

abbrev is : List ℕ → List Tok → Case
is s ts = record { given = s; tokens = ts }

abbrev pub table : List Case
table =
    is [] []
    ∷ is (bytes "(2 3)") (left 0 ∷ word 1 (bytes "2") ∷ word 3 (bytes "3") ∷ right 4 ∷ [])
    -- all four blanks, at both ends too
    ∷ is (bytes " \t\r\nab \n cd\t") (word 4 (bytes "ab") ∷ word 9 (bytes "cd") ∷ [])
    ∷ is (bytes " \t\r\n ") []
    -- parentheses and blanks inside a string
    ∷ is (bytes "(0 \"a ) (b\" )") (left 0 ∷ word 1 (bytes "0") ∷ text 3 ∷ right 12 ∷ [])
    -- a quote ends a word, and a string needs no blank around it
    ∷ is (bytes "ab\"c\"de") (word 0 (bytes "ab") ∷ text 2 ∷ word 5 (bytes "de") ∷ [])
    -- no escapes: the second quote closes
    ∷ is (bytes "\"a\\\"b") (text 0 ∷ word 4 (bytes "b") ∷ [])
    ∷ is (bytes "\"\"\"\"") (text 0 ∷ text 2 ∷ [])
    -- unclosed, at its opening quote; what it holds are no tokens
    ∷ is (bytes "x \"a) (b") (word 0 (bytes "x") ∷ cut 2 ∷ [])
    ∷ is (bytes "(\"") (left 0 ∷ cut 1 ∷ [])
    -- bytes 0, 11, 12, 127, 160 and 255 are a word's
    ∷ is (0 ∷ 11 ∷ 12 ∷ 32 ∷ 127 ∷ 160 ∷ 255 ∷ []) (word 0 (0 ∷ 11 ∷ 12 ∷ []) ∷ word 4 (127 ∷ 160 ∷ 255 ∷ []) ∷ [])
    ∷ []

pub cases : map (λ c. tokens_of c.given) table ≡ map (λ c. c.tokens) table
unfolding class_of run_end run_at text_to token_of token_from token_at tokens_in tokens_from
cases = refl

-- `Cursor::new`: a start at the second byte
new :
    ((κ : _) (a : _) (r : _) (x : _) → news.Post κ a r x → tokens_from (bytes "()") r.at ≡ left 0 ∷ right 1 ∷ [])
    × (tokens_from (bytes "()") 1 ≡ right 1 ∷ [])
unfolding class_of run_end run_at token_of token_from token_at tokens_in tokens_from
new = (λ κ a r x first. rw first refl, refl)

-- `Cursor::token`: a string that ends before its closing quote
token : (token_at (bytes "\"a\" ") 0 ≡ step_of Token.Text 0 3) × (step_of Token.Text 0 (run_at Run.Text (bytes "\"a\" ") 1) ≡ step_of Token.Text 0 2)
unfolding class_of run_end run_at text_to token_of token_from token_at
token = (refl, refl)

-- `Cursor::start`: words passed over as blanks are
start : (start_of (bytes " 2 3)") 0 ≡ 1) × (mark_of (bytes " 2 3)") 0 ≡ 4)
unfolding class_of run_end run_at
start = (refl, refl)

-- `Cursor::ends_word`: a word that ends where a string does, at a quote only
ends_word_lem : (ends_word (bytes "2)") 1 ≡ true) × (not (goes_on Run.Text (class_of (get_or (bytes "2)") 1 0))) ≡ false)
unfolding class_of ends_word
ends_word_lem = (refl, refl)

-- `Cursor::mark`: parentheses passed over, so that only a quote is found
mark : (mark_of (bytes "a (\"") 0 ≡ 2) × (quote_of (bytes "a (\"") 0 ≡ 3)
unfolding class_of run_end run_at
mark = (refl, refl)

-- `is_blank`: byte 11 taken for the tab, which is byte 9
is_blank_lem : (is_blank 9 ≡ true) × ((eqb 9 32 || (eqb 9 11 || (eqb 9 10 || eqb 9 13))) ≡ false)
is_blank_lem = (refl, refl)
