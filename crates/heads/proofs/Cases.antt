-- Closed cases of the functions that only our own crates call: the right answer, and what a wrong program would have answered there. Assumes nothing.
use mathlib.Core.Path.{◌≡◌, refl}
use mathlib.Core.List.{[]}
use Rattle.facts.specs.Text.{bytes}
use Rattle.tokens.specs.Tokens.{class_of, run_end, run_at, token_of, token_from, token_at}
use Rattle.tokens.specs.Listed.{tokens_in, tokens_from, tokens_of}
use Rattle.digits.specs.Digits.{digit_of, digits_in}
use Rattle.numbers.specs.Whole.{whole_of}
use Rattle.layout.specs.declared.Refusal.{Refusal}
use Rattle.layout.specs.Items.{node, cell, absent}
use Rattle.layout.specs.Reading.{got, bad, left_of, right_of, word_of}
use Rattle.layout.specs.Sections.{Head, fifth_of, head_of}

-- "(1 2 3 0)", its fifth word absent
abbrev four : Head
four =
    record {
      zone = record { value = 1; at = 1 };
      first = record { value = 2; at = 3 };
      last = record { value = 3; at = 5 };
      type = record { value = 0; at = 7 };
      fifth = absent;
      fifth_at = 0;
      end = 8;
    }

-- `head_at`: cells taken without a fifth word, as nodes are
head_at :
    (head_of 9 cell (tokens_of (bytes "(1 2 3 0)")) ≡ bad Refusal.Grammar 8)
    × (head_of 9 node (tokens_of (bytes "(1 2 3 0)")) ≡ got four [])
unfolding class_of run_end run_at token_of token_from token_at tokens_in tokens_from digit_of digits_in whole_of left_of right_of word_of fifth_of head_of
head_at = (refl, refl)
