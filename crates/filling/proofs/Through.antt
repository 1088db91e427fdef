-- Reading by way of the zone records as numbers: the answer and the tables of the covered call, and its records at the start of the list. Assumes nothing.
use Rattle.std.specs.Prelude.{ℕ, List, length}
use Rattle.mesh.specs.declared.Zone.{Zone}
use Rattle.layout.specs.Read.{Result}
use Rattle.layout.specs.Rows.{Lent}
use Rattle.filling.specs.Found.{Tables, Core, core_of}
use Rattle.filling.specs.Zones.{filled}

abbrev pub tables_in : Lent → Tables
tables_in l = record { mantissas = l.mantissas; exponents = l.exponents; faces = l.faces; cells = l.cells }

abbrev pub with_zones : Core → List Zone → Result
with_zones c old =
    record {
      reply = c.found.reply;
      held = record {
        mantissas = c.held.mantissas;
        exponents = c.held.exponents;
        faces = c.held.faces;
        cells = c.held.cells;
        zones = filled c.found.flat c.found.zones old;
      };
    }

abbrev pub through_core : List ℕ → Lent → Result
through_core s l = with_zones (core_of s (length l.zones) (tables_in l)) l.zones
