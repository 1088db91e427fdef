-- Closed cases of the functions that only our own crates call: the right answer, and what a wrong program would have answered there. Assumes nothing.
use Prim.Native.Nat.{◌+◌, ◌*◌}
use mathlib.Core.Path.{◌≡◌, refl}
use mathlib.Core.List.{[]}
use Rattle.facts.specs.Text.{bytes}
use Rattle.tokens.specs.Tokens.{class_of, run_end, run_at, token_of, token_from, token_at}
use Rattle.tokens.specs.Listed.{tokens_in, tokens_from, tokens_of}
use Rattle.digits.specs.Digits.{digit_of, digits_in}
use Rattle.numbers.specs.declared.sort.Sort.{Sort}
use Rattle.numbers.specs.Whole.{whole_of}
use Rattle.layout.specs.Reading.{got, word_of, number_by}
use Rattle.std.specs.Prelude.{unwrap_or}
use Rattle.steps.specs.Views.{num_view, num_read, whole_for}
use Rattle.ids.specs.Ids.{figure_at}

-- `id_at`: the two digits of an id swapped
id_at :
    (number_by 2 (whole_for Sort.SectionId) Sort.SectionId (tokens_of (bytes "12")) ≡ got (record { value = 12; at = 0 }) [])
    × (num_view (bytes "12") (num_read (10 * unwrap_or (figure_at (bytes "12") 1) 0 + unwrap_or (figure_at (bytes "12") 0) 0) 0 2) ≡ got (record { value = 21; at = 0 }) [])
unfolding class_of run_end run_at token_of token_from token_at tokens_in tokens_from digit_of digits_in whole_of word_of figure_at
id_at = (refl, refl)
