-- [01:Sizes]. To be believed: all of this file. Assumes nothing.
use Rattle.std.specs.Prelude.{ℕ}
use Rattle.sizes.specs.declared.Limits.{Limits}

-- "File: at most 8,388,608 bytes."
abbrev pub file_bytes : ℕ
file_bytes = 8388608

-- "Nodes, faces, cells: at most 65,535 each."
abbrev pub rows : ℕ
rows = 65535

-- "Zone ids: at most 65,535."
abbrev pub zone_id : ℕ
zone_id = 65535

-- "Zones: at most 64 regular sections in a file, all kinds together."
abbrev pub zones : ℕ
zones = 64

-- "Nesting in a stepped-over section: depth 64, its own parenthesis being depth 1."
abbrev pub depth : ℕ
depth = 64

-- "Coordinate word: at most 64 bytes, 18 significant digits."
abbrev pub coordinate_bytes : ℕ
coordinate_bytes = 64

abbrev pub coordinate_digits : ℕ
coordinate_digits = 18

-- all of them, as the code has them
abbrev pub in_force : Limits
in_force =
    record {
      file = file_bytes;
      rows = rows;
      zone = zone_id;
      zones = zones;
      depth = depth;
      word = coordinate_bytes;
      digits = coordinate_digits;
    }
