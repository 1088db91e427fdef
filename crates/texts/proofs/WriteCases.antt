-- [02:M-101]. What the writer leaves, byte for byte: room exact, one short, one more; 18 before 19. Assumes nothing.
use Prim.Native.Nat.{ℕ}
use mathlib.Core.Path.{◌≡◌, refl}
use mathlib.Core.List.{List, [], ◌∷◌, ◌++◌}
use lib.ListN.{replicate}
use Rattle.facts.specs.Text.{bytes}
use Rattle.figures.specs.Figures.{figure, figures_on, figures}
use Rattle.layout.specs.Says.{Mesh}
use Rattle.layout.specs.State.{tiled}
use Rattle.texts.specs.Texts.{text_of}
use Rattle.texts.specs.Tabled.{items_of}
use Rattle.texts.specs.Judged.{front_by, spans_of, all_tiled, records_by, all_by, writable_of}
use Rattle.texts.specs.Write.{mesh_of, values, out, write_of}

-- no node, no face, no cell
abbrev empty : ℕ → Mesh
empty d = mesh_of d 0 0 0 (record { mantissas = []; exponents = []; faces = []; cells = []; zones = [] })

-- 57 bytes
abbrev text : List ℕ
text = bytes "(2 2)\n(10 (0 1 0 0 2))\n(12 (0 1 0 0 0))\n(13 (0 1 0 0 0))\n"

pub room_cases : (write_of (empty 2) (replicate 57 7) ≡ out (values 0 57) text) × (write_of (empty 2) (replicate 58 7) ≡ out (values 0 57) (text ++ (7 ∷ [])))
    × (write_of (empty 2) (replicate 56 7) ≡ out (values 19 0) (replicate 56 7)) × (write_of (empty 4) [] ≡ out (values 18 0) [])
unfolding tiled figure figures_on figures text_of items_of front_by spans_of all_tiled records_by all_by writable_of write_of
room_cases = (refl, refl, refl, refl)
