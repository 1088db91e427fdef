-- Closed cases of the functions that only our own crates call: the right answer, and what a wrong program would have answered there. Assumes nothing.
use mathlib.Core.Path.{◌≡◌, refl}
use mathlib.Core.List.{[]}
use Rattle.facts.specs.Text.{bytes}
use Rattle.tokens.specs.Tokens.{class_of, run_end, run_at, token_of, token_from, token_at}
use Rattle.tokens.specs.Listed.{tokens_in, tokens_from, tokens_of}
use Rattle.digits.specs.Digits.{digit_of, digits_in}
use Rattle.numbers.specs.Whole.{whole_of}
use Rattle.layout.specs.Items.{face, cell, absent, Header, decl}
use Rattle.layout.specs.Keeps.{Room, unlimited}
use Rattle.layout.specs.Reading.{got, left_of, right_of, word_of}
use Rattle.layout.specs.State.{start, decl_range}
use Rattle.layout.specs.Sections.{fifth_of, head_of, decl_of, kind_of, section_of}

abbrev room : Room
room = record { nodes = unlimited; cells = unlimited; faces = unlimited; zones = unlimited }

abbrev header : Header
header = record { zone = 0; first = 1; last = 2; type = 0; fifth = absent }

-- `section_at`, `section_by_lists`: faces read as cells
section_at :
    (section_of 13 room start (tokens_of (bytes "13 (0 1 2 0))")) ≡ got (decl face header) [])
    × (kind_of 13 room cell start (tokens_from (bytes "13 (0 1 2 0))") 2) ≡ got (decl cell header) [])
unfolding class_of run_end run_at token_of token_from token_at tokens_in tokens_from digit_of digits_in whole_of left_of right_of word_of decl_range fifth_of head_of decl_of kind_of section_of
section_at = (refl, refl)
