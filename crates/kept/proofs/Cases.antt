-- Closed cases of the functions that only our own crates call: the right answer, and what a wrong program would have answered there. Assumes nothing.
use mathlib.Core.Path.{◌≡◌, refl}
use mathlib.Core.List.{List, [], ◌∷◌}
use mathlib.Core.Bool.{true, false, ◌||◌}
use lib.Dec.{ltb, leb}
use Rattle.layout.specs.State.{every, clear, some_of, tiled}
use Rattle.kept.specs.declared.Kept.{Kept}
use Rattle.kept.specs.Kept.{stacked, kept_of, Listed, kept_by_lists}

-- cells 1 to 3
abbrev cells : List Kept
cells = record { id = 12; first = 1; last = 3 } ∷ []

-- the same in three lists
abbrev listed_cells : Listed
listed_cells = record { ids = 12 ∷ []; firsts = 1 ∷ []; lasts = 3 ∷ [] }

-- nothing
abbrev empty : Listed
empty = record { ids = []; firsts = []; lasts = [] }

-- `is_clear`: sections that share an end taken for apart
is_clear : (every (clear 3 4) (kept_of cells 12 1) ≡ false) × ((leb 3 3 || ltb 4 1) ≡ true)
unfolding every stacked
is_clear = (refl, refl)

-- `is_tiled`: the last index never looked for
is_tiled : (tiled (kept_of cells 12 1) 4 ≡ false) × (tiled (kept_of cells 12 1) 3 ≡ true)
unfolding some_of tiled stacked
is_tiled = (refl, refl)

-- `is_clear_by_lists`: sections that share an end taken for apart
is_clear_by_lists : (every (clear 3 4) (kept_by_lists listed_cells 12 1) ≡ false) × ((leb 3 3 || ltb 4 1) ≡ true)
unfolding every kept_by_lists
is_clear_by_lists = (refl, refl)

-- `is_clear_by_lists`: behind the end of the lists, where a section 0 from 0 to 0 stands, nothing taken to stand
is_clear_by_lists_past : (every (clear 0 5) (kept_by_lists empty 0 1) ≡ false) × (every (clear 0 5) (kept_by_lists empty 0 0) ≡ true)
unfolding every kept_by_lists
is_clear_by_lists_past = (refl, refl)

-- `is_tiled_by_lists`: the last index never looked for
is_tiled_by_lists : (tiled (kept_by_lists listed_cells 12 1) 4 ≡ false) × (tiled (kept_by_lists listed_cells 12 1) 3 ≡ true)
unfolding some_of tiled kept_by_lists
is_tiled_by_lists = (refl, refl)
