-- [01:Sections that are read], tables: rows over the number of node places. To be believed: all of this file. Assumes nothing.
use Rattle.std.specs.Prelude.{ℕ, ◌+◌, ◌*◌, ◌/◌, List, true, false, ltb, length, take, drop, get_or, replicate}
use Rattle.mesh.specs.declared.Face.{Face}
use Rattle.mesh.specs.declared.Cell.{Cell}

-- "four nodes"
abbrev pub places : ℕ
places = 4

-- "Face row, eight 32-bit words: node count, four nodes (unused ones 0), right cell, left cell, zone type."
abbrev pub face_words : ℕ → ℕ
face_words n = n + 4

-- "Cell row, two 32-bit words: element, zone type."
abbrev pub cell_words : ℕ
cell_words = 2

-- "node row, three mantissas in one slice of signed 64-bit numbers and three exponents in one of signed 32-bit numbers"
abbrev pub node_words : ℕ
node_words = 3

-- "whole rows"
abbrev pub rows_in : ℕ → List ℕ → ℕ
rows_in words rows = length rows / words

-- the words of the row at i, counted from 0
abbrev pub row_at : ℕ → List ℕ → ℕ → List ℕ
row_at words rows i = take words (drop (i * words) rows)

-- what the words of a face row say, with n node places
abbrev pub face_of : ℕ → List ℕ → Face
face_of n row =
    record {
      count = get_or row 0 0;
      nodes = take n (drop 1 row);
      right = get_or row (n + 1) 0;
      left = get_or row (n + 2) 0;
      ztype = get_or row (n + 3) 0;
    }

abbrev pub no_face : ℕ → Face
no_face n = record { count = 0; nodes = replicate n 0; right = 0; left = 0; ztype = 0 }

-- the face row at f, counted from 0; zeros past the last whole row
unfoldable pub face_at : ℕ → List ℕ → ℕ → Face
face_at n rows f = elim (ltb f (rows_in (face_words n) rows)) [ true ↦ face_of n (row_at (face_words n) rows f) | false ↦ no_face n ]

-- what the words of a cell row say
abbrev pub cell_of : List ℕ → Cell
cell_of row = record { element = get_or row 0 0; ztype = get_or row 1 0 }

abbrev pub no_cell : Cell
no_cell = record { element = 0; ztype = 0 }

unfoldable pub cell_at : List ℕ → ℕ → Cell
cell_at rows c = elim (ltb c (rows_in cell_words rows)) [ true ↦ cell_of (row_at cell_words rows c) | false ↦ no_cell ]
