-- A closed example: one text, byte for byte. Assumes nothing.
use Prim.Native.Nat.{ℕ}
use mathlib.Core.Path.{◌≡◌, refl}
use mathlib.Core.List.{List, [], ◌∷◌, ◌++◌}
use lib.IntN.{pos, negsuc}
use Rattle.facts.specs.Text.{bytes}
use Rattle.mesh.specs.declared.Zone.{Zone}
use Rattle.figures.specs.Figures.{figure, figures_on, figures}
use Rattle.figures.specs.Signed.{decimal_text, coordinate_text}
use Rattle.layout.specs.Says.{Mesh}
use Rattle.tokens.specs.Tokens.{class_of, run_end, run_at, text_to, token_of, token_from, token_at}
use Rattle.tokens.specs.Listed.{tokens_in, tokens_from}
use Rattle.digits.specs.Digits.{digit_of, digits_in}
use Rattle.numbers.specs.Whole.{whole_of}
use Rattle.numbers.specs.Bad.{bad_at}
use Rattle.decimals.specs.Coordinate.{sign_in, fraction_in, marked_of, power_of, reading_of, cut, in_range, fitted, keep, coordinate_of}
use Rattle.layout.specs.Reading.{left_of, right_of, word_of, skip, rows_of as wordRows}
use Rattle.layout.specs.State.{every, some_of, among, tiled, decl_range, part_range, zone_fits}
use Rattle.layout.specs.Sections.{fifth_of, head_of, element_of, hex_of, facing_of, mixed_of, body_of, two_of, decl_of as readDecl, part_of as readPart, kind_of, other_of, section_of}
use Rattle.layout.specs.Read.{end_of, file_of, answer_of, lay, read_of}
use Rattle.layout.proofs.Exactly.{accepted_as, read_of_exactly}
use Rattle.texts.specs.Writable.{Writable}
use Rattle.texts.proofs.Given.{given_writable}
use Rattle.texts.specs.Texts.{text_of}
use Rattle.texts.specs.Tabled.{rows_of, part_of, items_of}

abbrev zone : ℕ → ℕ → ℕ → ℕ → ℕ → ℕ → Zone
zone s z f l t e = record { section = s; zone = z; first = f; last = l; ztype = t; element = e }

-- a triangle with one cell, its faces in a mixed section and a plain one
abbrev pub sample : Mesh
sample =
    record {
      dimension = 2;
      nodes = 3;
      faces = 3;
      cells = 1;
      zones = 4;
      held = record {
        mantissas = pos 0 ∷ pos 0 ∷ pos 0 ∷ pos 1 ∷ pos 0 ∷ pos 0 ∷ negsuc 124 ∷ pos 999999999999999999 ∷ pos 0 ∷ [];
        exponents = pos 0 ∷ pos 0 ∷ pos 0 ∷ pos 400 ∷ pos 0 ∷ pos 0 ∷ negsuc 2 ∷ negsuc 399 ∷ pos 0 ∷ [];
        faces = 2 ∷ 1 ∷ 2 ∷ 0 ∷ 0 ∷ 1 ∷ 0 ∷ 3 ∷ (2 ∷ 2 ∷ 3 ∷ 0 ∷ 0 ∷ 1 ∷ 0 ∷ 3 ∷ (2 ∷ 3 ∷ 4294967295 ∷ 0 ∷ 0 ∷ 1 ∷ 0 ∷ 36 ∷ []));
        cells = 1 ∷ 1 ∷ [];
        zones = zone 10 1 1 3 1 0 ∷ zone 12 2 1 1 1 0 ∷ zone 13 43981 1 2 3 2 ∷ zone 13 4 3 3 36 0 ∷ [];
      };
    }

abbrev pub sample_text : List ℕ
sample_text =
    bytes "(2 2)\n(10 (0 1 3 0 2))\n(12 (0 1 1 0 0))\n(13 (0 1 3 0 0))\n(10 (1 1 3 1 2)(\n0e0 0e0\n1e400 0e0\n-125e-3 999999999999999999e-400))\n"
    ++ bytes "(12 (2 1 1 1 0)(\n1))\n(13 (abcd 1 2 3 2)(\n1 2 1 0\n2 3 1 0))\n(13 (4 3 3 24 0)(\n2 3 ffffffff 1 0))\n"

pub sample_text_lem : text_of (items_of sample) ≡ sample_text
unfolding text_of items_of part_of rows_of figure figures_on figures decimal_text coordinate_text
sample_text_lem = refl

-- read, it gives the same tables: some text gives them, and so they are writable
sample_read : read_of sample_text sample.held ≡ accepted_as sample
unfolding class_of run_end run_at text_to token_of token_from token_at tokens_in tokens_from digit_of digits_in whole_of sign_in fraction_in marked_of power_of reading_of cut in_range fitted keep coordinate_of bad_at left_of right_of word_of skip wordRows every some_of among tiled decl_range part_range zone_fits fifth_of head_of element_of hex_of facing_of mixed_of body_of two_of readDecl readPart kind_of other_of section_of end_of file_of answer_of lay read_of
sample_read = refl

pub sample_writable : Writable sample
sample_writable =
    let s = (read_of_exactly sample_text sample.held sample).0 sample_read in
    given_writable sample
    (record {
      bytes = sample_text;
      tokens = s.laid.tokens;
      text = s.laid.text;
      items = s.items;
      old = sample.held;
      laid = s.laid.laid;
      dimension = s.dimension;
      nodes = s.nodes;
      faces = s.faces;
      cells = s.cells;
      zones = s.zones;
      held = s.held;
      all = refl;
    })
