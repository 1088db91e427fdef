-- [01:The report program], its input: a file with the mesh that it says, row by row, in tables that held nines. Assumes nothing.
use Prim.Native.Nat.{ℕ}
use mathlib.Core.Path.{◌≡◌, refl}
use mathlib.Core.List.{List, [], ◌∷◌}
use lib.IntN.{pos}
use lib.ListN.{replicate}
use Rattle.facts.specs.Text.{bytes}
use Rattle.tokens.specs.Tokens.{class_of, run_end, run_at, text_to, token_of, token_from, token_at}
use Rattle.tokens.specs.Listed.{tokens_in, tokens_from}
use Rattle.digits.specs.Digits.{digit_of, digits_in}
use Rattle.numbers.specs.Whole.{whole_of}
use Rattle.decimals.specs.Coordinate.{sign_in, fraction_in, marked_of, power_of, reading_of, cut, in_range, fitted, keep, coordinate_of}
use Rattle.mesh.specs.declared.Zone.{Zone}
use Rattle.layout.specs.Rows.{Lent}
use Rattle.layout.specs.Says.{Mesh, Says}
use Rattle.layout.specs.Reading.{left_of, right_of, word_of, skip, rows_of}
use Rattle.layout.specs.State.{every, some_of, among, tiled, decl_range, part_range, zone_fits}
use Rattle.layout.specs.Sections.{fifth_of, head_of, element_of, hex_of, facing_of, mixed_of, body_of, two_of, decl_of, part_of, kind_of, other_of, section_of}
use Rattle.layout.specs.Read.{end_of, file_of, answer_of, lay, read_of}
use Rattle.layout.proofs.Exactly.{accepted_as, read_of_exactly}

abbrev sample : List ℕ
sample = bytes "(2 2)(10 (0 1 3 0 2))(12 (0 1 1 0))(13 (0 1 3 0))\n(10 (1 1 3 1 2)(0 0 1 0 0 1))(12 (2 1 1 1 1))\n(13 (3 1 3 3 2)(1 2 0 1 2 3 0 1 3 4 0 2))"

abbrev nines : Zone
nines = record { section = 9; zone = 9; first = 9; last = 9; ztype = 9; element = 9 }

-- room for four nodes and a word more, four faces and a word more, two cells, four zones
abbrev lent : Lent
lent = record { mantissas = replicate 12 (pos 9); exponents = replicate 13 (pos 9); faces = replicate 33 9; cells = replicate 4 9; zones = replicate 4 nines }

abbrev sample_mesh : Mesh
sample_mesh =
    record {
      dimension = 2;
      nodes = 3;
      faces = 3;
      cells = 1;
      zones = 3;
      held =
          record {
            mantissas = pos 0 ∷ pos 0 ∷ pos 0 ∷ pos 1 ∷ pos 0 ∷ pos 0 ∷ pos 0 ∷ pos 1 ∷ pos 0 ∷ replicate 3 (pos 9);
            exponents = pos 0 ∷ pos 0 ∷ pos 0 ∷ pos 0 ∷ pos 0 ∷ pos 0 ∷ pos 0 ∷ pos 0 ∷ pos 0 ∷ replicate 4 (pos 9);
            faces = 2 ∷ 1 ∷ 2 ∷ 0 ∷ 0 ∷ 0 ∷ 1 ∷ 3 ∷ 2 ∷ 2 ∷ 3 ∷ 0 ∷ 0 ∷ 0 ∷ 1 ∷ 3 ∷ 2 ∷ 3 ∷ 4 ∷ 0 ∷ 0 ∷ 0 ∷ 2 ∷ 3 ∷ replicate 9 9;
            cells = 1 ∷ 1 ∷ 9 ∷ 9 ∷ [];
            zones =
                record { section = 10; zone = 1; first = 1; last = 3; ztype = 1; element = 0 }
                ∷ record { section = 12; zone = 2; first = 1; last = 1; ztype = 1; element = 1 }
                ∷ record { section = 13; zone = 3; first = 1; last = 3; ztype = 3; element = 2 }
                ∷ nines
                ∷ [];
          };
    }

pub sample_reads : read_of sample lent ≡ accepted_as sample_mesh
unfolding class_of run_end run_at text_to token_of token_from token_at tokens_in tokens_from digit_of digits_in whole_of sign_in fraction_in marked_of power_of reading_of cut in_range fitted keep coordinate_of left_of right_of word_of skip rows_of every some_of among tiled decl_range part_range zone_fits fifth_of head_of element_of hex_of facing_of mixed_of body_of two_of decl_of part_of kind_of other_of section_of end_of file_of answer_of lay read_of
sample_reads = refl

-- the relation is not empty: the file says this mesh
pub sample_says : Says sample lent sample_mesh
sample_says = (read_of_exactly sample lent sample_mesh).0 sample_reads
