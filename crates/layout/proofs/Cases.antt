-- Files and what reading them answers, one table: every refusal but TooLong, and of each two checks of a header which comes first. Assumes nothing.
use Prim.Native.Nat.{ℕ}
use Prim.Native.String.{String}
use mathlib.Core.Path.{◌≡◌, refl}
use mathlib.Core.List.{List, [], ◌∷◌, ◌++◌, map}
use lib.IntN.{pos}
use lib.ListN.{replicate}
use Rattle.facts.specs.Text.{bytes}
use Rattle.tokens.specs.Tokens.{class_of, run_end, run_at, text_to, token_of, token_from, token_at}
use Rattle.tokens.specs.Listed.{tokens_in, tokens_from}
use Rattle.digits.specs.Digits.{digit_of, digits_in}
use Rattle.numbers.specs.Whole.{whole_of}
use Rattle.decimals.specs.Coordinate.{sign_in, fraction_in, marked_of, power_of, reading_of, cut, in_range, fitted, keep, coordinate_of}
use Rattle.numbers.specs.Bad.{bad_at}
use Rattle.layout.specs.Rows.{Lent, no_zone}
use Rattle.layout.specs.Replies.{Shown, shown}
use Rattle.layout.specs.Reading.{left_of, right_of, word_of, skip, rows_of}
use Rattle.layout.specs.State.{every, some_of, among, tiled, decl_range, part_range, zone_fits}
use Rattle.layout.specs.Sections.{fifth_of, head_of, element_of, hex_of, facing_of, mixed_of, body_of, two_of, decl_of, part_of, kind_of, other_of, section_of}
use Rattle.layout.specs.Read.{end_of, file_of, answer_of, lay, read_of}

record Case : Type 0 where
  text : List ℕ
  answer : Shown

abbrev answers : ℕ → ℕ → ℕ → Shown
answers n k o = record { number = n; section = k; offset = o; dimension = 0; nodes = 0; faces = 0; cells = 0; zones = 0 }

abbrev refused : String → ℕ → ℕ → ℕ → Case
refused t n k o = record { text = bytes t; answer = answers n k o }

-- behind three regular sections, which fill the list
abbrev fourth : String → ℕ → ℕ → ℕ → Case
fourth t n k o = record { text = bytes "(10 (0 1 4 0 2))(10 (1 1 1 1)(0 0))(10 (1 2 2 1)(0 0))(10 (1 3 3 1)(0 0))" ++ bytes t; answer = answers n k o }

abbrev accepted : String → ℕ → ℕ → ℕ → ℕ → ℕ → Case
accepted t d n f c z =
    record { text = bytes t; answer = record { number = 0; section = 0; offset = 0; dimension = d; nodes = n; faces = f; cells = c; zones = z } }

-- room for four nodes, three faces, two cells, three zones
abbrev lent : Lent
lent = record { mantissas = replicate 12 (pos 9); exponents = replicate 13 (pos 9); faces = replicate 25 9; cells = replicate 4 9; zones = replicate 3 no_zone }

abbrev table : List Case
table =
    -- accepted: the input of the report program; no rows at all; zone 1 in every section; types and elements of each kind; a late section 2
    accepted "(2 2)(10 (0 1 3 0 2))(12 (0 1 1 0))(13 (0 1 3 0))(10 (1 1 3 1 2)(0 0 1 0 0 1))(12 (2 1 1 1 1))(13 (3 1 3 3 2)(1 2 0 1 2 3 0 1 3 4 0 2))" 2 3 3 1 3
    ∷ accepted "(2 3)(10 (0 1 0 0))(13 (0 1 0 0))" 3 0 0 0 0
    ∷ accepted "(2 2)(10 (0 1 1 0))(12 (0 1 2 0 9))(10 (1 1 1 0)(.5 -1e2))(12 (1 1 2 20 0)(3 6))(13 (0 1 1 0 9))(13 (1 1 1 24 0)(4 1 2 3 4 0 1))" 2 1 1 2 3
    ∷ accepted "(13 (0 1 2 0))(10 (0 1 0 0))(13 (1 2 2 3f4 2)(1 2 0 0))(13 (1 1 1 3EB 2)(ffffffff 0 0 7))(2 2)" 2 0 2 0 2
    -- "A file is sections, with any blanks or none around them."
    ∷ refused "(2 3))" 2 1 5
    ∷ refused " \"a\" (2 2)" 2 0 1
    ∷ refused "(2 2)\"" 2 1 5
    ∷ refused "(2 4)\"" 9 1 3
    -- "A section is `(`, an id word, its contents, `)`. The id is 1 to 5 decimal digits."
    ∷ refused "()" 2 1 1
    ∷ refused "(\"2\" 2)" 2 1 1
    ∷ refused "(00002 4)" 9 1 7
    ∷ refused "(02010)" 4 1 1
    ∷ refused "(123456)" 3 1 1
    ∷ refused "(2x)" 3 1 1
    ∷ refused "(a)" 3 1 1
    -- "All other whole numbers are hexadecimal, 1 to 8 digits"
    ∷ refused "(2 x)" 3 1 3
    ∷ refused "(2 000000002)" 3 1 3
    ∷ refused "(2 00000004)" 9 1 3
    ∷ refused "(2 -2)" 3 1 3
    -- "Parentheses inside strings counted." An unclosed string is met in its turn
    ∷ refused "(0 \"(\")" 13 1 7
    ∷ refused "(0 \")\" x)" 13 1 9
    ∷ refused "(0 \"x)" 2 1 3
    ∷ refused "(10 (0 1 \"x" 2 1 9
    -- "Nesting in a stepped-over section: depth 64, its own parenthesis being depth 1."
    ∷ refused "(0((((((((((((((((((((((((((((((((((((((((((((((((((((((((((((((())))))))))))))))))))))))))))))))))))))))))))))))))))))))))))))))" 13 1 129
    ∷ refused "(0((((((((((((((((((((((((((((((((((((((((((((((((((((((((((((((((" 12 1 65
    -- a header is taken up to its `)`: a sixth word, a word too few, a body where none belongs
    ∷ refused "(2 4" 2 1 4
    ∷ refused "(2 2 2)" 2 1 5
    ∷ refused "(10 (0 1 5 0 4 zz))" 2 1 15
    ∷ refused "(12 (1 1 1 1))" 2 1 12
    ∷ refused "(12 (0 1 1)" 2 1 10
    ∷ refused "(10 1" 2 1 4
    ∷ refused "(12 (0 1 1 0))(12 (1 1 1 1 1)())" 2 2 29
    ∷ refused "(10 (0 1 4 0)(0))" 2 1 13
    -- 5 to 11 come before the token behind the header
    ∷ refused "(10 (1 1 1 1) x" 5 1 5
    -- bodies: too few words, one too many, words that are no numbers, elements that are not listed
    ∷ refused "(10 (0 1 4 0 2))(10 (1 1 2 1)(0 0 1))" 2 2 35
    ∷ refused "(10 (0 1 4 0 2))(10 (1 1 2 1)(0 0 1 0 nan))" 2 2 38
    ∷ refused "(10 (0 1 4 0 2))(10 (1 1 2 1)(0 0 1 nan))" 3 2 36
    ∷ refused "(10 (0 1 4 0 2))(10 (1 1 1 1 2))" 2 2 31
    ∷ refused "(12 (0 1 1 0))(12 (1 1 1 1 0)(7))" 9 2 30
    ∷ refused "(12 (0 1 1 0))(12 (1 1 1 1 0)(0))" 9 2 30
    ∷ refused "(13 (0 1 1 0))(13 (1 1 1 24 2)(1 2 0))" 2 2 36
    ∷ refused "(13 (0 1 1 0))(13 (1 1 1 2 0)(5 1 2 3 4 5 0 0))" 9 2 30
    ∷ refused "(13 (0 1 1 0))(13 (1 1 1 2 0)(1 1 0 0))" 9 2 30
    ∷ refused "(13 (0 1 1 0))(13 (1 1 1 2 2)(1 2 0 g))" 3 2 36
    -- 5 Undeclared, before 6, 7, 9 and 10
    ∷ refused "(12 (1 1 1 1 1))" 5 1 5
    ∷ refused "(10 (0 1 4 0))(10 (0 1 4 0))" 5 2 19
    ∷ refused "(12 (1 0 0 1 1))" 5 1 5
    ∷ refused "(10 (0 1 4 0))(10 (0 2 4 0))" 5 2 19
    ∷ refused "(10 (0 1 4 0))(10 (0 1 5 0))" 5 2 19
    ∷ refused "(12 (1 1 1 9 9))" 5 1 5
    ∷ refused "(10 (1 1 1 1))" 5 1 5
    ∷ refused "(10 (0 1 4 0))(10 (0 1 4 0 4))" 5 2 19
    ∷ refused "(2 2)(10 (0 1 4 0))(10 (0 1 4 0 3))" 5 3 24
    -- 6 Range, before 7, 8, 9 and 10
    ∷ refused "(10 (0 0 0 0))" 6 1 7
    ∷ refused "(10 (0 1 10000 0))" 6 1 7
    ∷ refused "(10 (0 1 4 0 2))(10 (10000 1 1 1)(0 0))" 6 2 27
    ∷ refused "(10 (0 1 4 0 2))(10 (1 0 1 1)(0 0))" 6 2 23
    ∷ refused "(10 (0 1 4 0 2))(10 (1 3 2 1)(0 0))" 6 2 23
    ∷ refused "(10 (0 1 4 0 2))(10 (1 1 5 1)(0 0))" 6 2 23
    ∷ refused "(12 (0 1 0 0))(12 (1 1 1 1 1))" 6 2 21
    ∷ refused "(10 (0 2 5 0))" 6 1 7
    ∷ fourth "(10 (1 1 5 1)(0 0))" 6 5 80
    ∷ refused "(10 (0 2 4 0 4))" 6 1 7
    ∷ refused "(12 (0 1 1 0))(12 (1 1 2 9 9))" 6 2 21
    ∷ refused "(2 2)(10 (0 0 4 0 3))" 6 2 12
    ∷ refused "(10 (0 1 4 0))(10 (1 0 1 1))" 6 2 21
    -- 7 TableRoom, before 9 and 10
    ∷ refused "(10 (0 1 5 0 2))" 7 1 7
    ∷ refused "(12 (0 1 3 0))" 7 1 7
    ∷ refused "(13 (0 1 4 0))" 7 1 7
    ∷ refused "(10 (0 1 ffff 0))" 7 1 7
    ∷ refused "(10 (0 1 5 0 4))" 7 1 7
    ∷ refused "(2 2)(10 (0 1 5 0 3))" 7 2 12
    -- 8 Overlap, before 9 and 10: "1 to 2 twice sums to a total of 4"
    ∷ refused "(10 (0 1 4 0 2))(13 (0 1 0 0))(10 (1 1 2 1)(0 0 1 0))(10 (1 1 2 1)(0 0 1 0))" 8 4 60
    ∷ refused "(12 (0 1 2 0))(12 (1 2 2 1 1))(12 (2 1 2 1 1))" 8 3 37
    ∷ refused "(12 (0 1 2 0))(12 (1 2 2 1 1))(12 (2 2 2 9 9))" 8 3 37
    ∷ refused "(10 (0 1 4 0 2))(10 (1 1 2 1)(0 0 1 0))(10 (1 2 3 1 3)(0 0 1 0))" 8 3 46
    -- 9 Type, before 10; the leftmost word
    ∷ refused "(10 (0 1 4 0 4))" 9 1 13
    ∷ refused "(10 (0 1 4 0 2))(10 (1 1 1 3)(0 0))" 9 2 27
    ∷ refused "(10 (0 1 4 0 2))(10 (1 1 1 1 4)(0 0))" 9 2 29
    ∷ refused "(12 (0 1 1 0))(12 (1 1 1 32 1))" 9 2 25
    ∷ refused "(12 (0 1 1 0))(12 (1 1 1 1 7))" 9 2 27
    ∷ refused "(13 (0 1 1 0))(13 (1 1 1 1e 2)(1 2 0 0))" 9 2 25
    ∷ refused "(13 (0 1 1 0))(13 (1 1 1 2 1)(1 0 0))" 9 2 27
    ∷ refused "(13 (0 1 1 0))(13 (1 1 1 3e9 5)(1 0 0))" 9 2 25
    ∷ refused "(2 2)(2 4)" 9 2 8
    ∷ refused "(2 2)(10 (0 1 4 0 4))" 9 2 18
    ∷ refused "(10 (0 1 4 0))(10 (1 1 1 3))" 9 2 25
    ∷ refused "(2 2)(10 (0 1 4 0))(10 (1 1 1 3 3))" 9 3 30
    ∷ refused "(10 (0 1 4 0))(10 (1 1 1 1 4))" 9 2 27
    -- 10 Dimension
    ∷ refused "(10 (0 1 4 0 3))(2 2)" 10 2 19
    ∷ refused "(2 2)(10 (0 1 4 0 3))" 10 2 18
    ∷ refused "(2 2)(10 (0 1 4 0))(10 (1 1 1 1 3)(0 0 0))" 10 3 32
    ∷ refused "(10 (0 1 4 0))(10 (1 1 4 1)(0))" 10 2 26
    -- 11 ZoneRoom, behind three sections, and all the others before it
    ∷ fourth "(10 (1 4 4 1)(0 0))" 11 5 78
    ∷ fourth "(12 (1 1 1 1 1))" 5 5 78
    ∷ fourth "(10 (1 5 5 1)(0 0))" 6 5 80
    ∷ fourth "(10 (1 3 3 1)(0 0))" 8 5 80
    ∷ fourth "(10 (1 4 4 3)(0 0))" 9 5 84
    ∷ fourth "(10 (1 4 4 1 3)(0 0))" 10 5 86
    -- at the end 13, 10, 14: nodes, faces; cells need not be declared
    ∷ refused "(2 2)(13 (0 1 0 0))" 13 2 19
    ∷ refused "(10 (0 1 4 0 2))" 13 1 16
    ∷ refused "(10 (0 1 4 0))(13 (0 1 0 0))" 10 2 28
    ∷ refused "(10 (0 1 4 0 2))(13 (0 1 0 0))(10 (1 2 3 1)(0 0 1 0)) " 14 3 54
    ∷ refused "(2 2)(10 (0 1 0 0))(13 (0 1 1 0))" 14 3 33
    ∷ refused "(2 2)(10 (0 1 0 0))(13 (0 1 0 0))(12 (0 1 2 0))(12 (1 1 1 1 1))" 14 5 63
    ∷ []

pub cases : map (λ c. shown (read_of c.text lent).reply) table ≡ map (λ c. c.answer) table
unfolding class_of run_end run_at text_to token_of token_from token_at tokens_in tokens_from digit_of digits_in whole_of sign_in fraction_in marked_of power_of reading_of cut in_range fitted keep coordinate_of bad_at left_of right_of word_of skip rows_of every some_of among tiled decl_range part_range zone_fits fifth_of head_of element_of hex_of facing_of mixed_of body_of two_of decl_of part_of kind_of other_of section_of end_of file_of answer_of lay read_of
cases = refl
