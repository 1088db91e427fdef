-- Zone records out of a flat table, six words a record. Assumes nothing.
use Rattle.std.specs.Prelude.{ℕ, zero, suc, ◌+◌, ◌*◌, List, slice_index, slice_set}
use Rattle.mesh.specs.declared.Zone.{Zone}

abbrev pub zone_at : List ℕ → ℕ → Zone
zone_at t i =
    record {
      section = slice_index t (i * 6);
      zone = slice_index t (i * 6 + 1);
      first = slice_index t (i * 6 + 2);
      last = slice_index t (i * 6 + 3);
      ztype = slice_index t (i * 6 + 4);
      element = slice_index t (i * 6 + 5);
    }

-- the list with the table's first n records at its start
unfoldable pub filled : List ℕ → ℕ → List Zone → List Zone
filled t zero zs = zs
filled t (suc n) zs = slice_set (filled t n zs) n (zone_at t n)
