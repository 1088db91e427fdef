-- The code's state, with the sections met so far, as the layout's state. Assumes nothing.
use Rattle.std.specs.Prelude.{ℕ, List}
use Rattle.layout.specs.State as St
use Rattle.layout.specs.State.{Span}
use Rattle.kept.specs.declared.Kept.{Kept}
use Rattle.kept.specs.Kept.{kept_of, Listed, kept_by_lists}
use Rattle.sofar.specs.declared.Seen.{Seen}
use Rattle.sofar.specs.declared.State.{State}

-- by what the first z sections that are of a kind cover
module _ (spans : ℕ → ℕ → List Span) where
  abbrev pub per_for : ℕ → Seen → ℕ → St.Per
  per_for z p id = record { declared = p.declared; total = p.total; spans = spans id z }

  abbrev pub state_by : State → St.State
  state_by x =
      record {
        dimension = x.dim;
        nodes = per_for x.zones x.nodes 10;
        cells = per_for x.zones x.cells 12;
        faces = per_for x.zones x.faces 13;
        zones = x.zones;
      }

abbrev pub state_for : List Kept → State → St.State
state_for kept = state_by (kept_of kept)

abbrev pub state_by_lists : Listed → State → St.State
state_by_lists kept = state_by (kept_by_lists kept)
