-- [01:Sections that are read]. What a file says, from its bytes to the tables: no reader, no order, no refusal. To be believed: all of this file. Assumes nothing.
use Rattle.std.specs.Prelude.{ℕ, ◌≤◌, ◌≡◌, ◌⊎◌, List, length}
use Rattle.sizes.specs.Sizes.{file_bytes}
use Rattle.tokens.specs.Listed.{Tok}
use Rattle.tokens.specs.Text.{Text}
use Rattle.layout.specs.Items.{Item, node, cell, face}
use Rattle.layout.specs.Keeps.{Room, All, Some, SaysDim, Declares, Undeclared, parts_in, Laid}
use Rattle.layout.specs.Rows.{Lent, room_of, Holds}

-- the bytes are these items, laid out as they must be
pub record LaidText (room : Room) (s : List ℕ) (is : List Item) : Type 0 where
  pub short : length s ≤ file_bytes
  pub tokens : List Tok
  pub text : Text 0 s tokens
  pub laid : Laid room tokens is

-- the dimension, the totals, the number of regular sections, and the tables and the list
pub record Mesh : Type 0 where
  pub dimension : ℕ
  pub nodes : ℕ
  pub faces : ℕ
  pub cells : ℕ
  pub zones : ℕ
  pub held : Lent

-- "with no cell declaration there are 0 cells"
abbrev pub CellsAre : List Item → ℕ → Type 0
CellsAre is c = Some (Declares cell c) is ⊎ (All (Undeclared cell) is × (c ≡ 0))

-- the file says this mesh, in tables that held `old` and have room for it
pub record Says (s : List ℕ) (old : Lent) (m : Mesh) : Type 0 where
  pub items : List Item
  pub laid : LaidText (room_of old) s items
  pub dimension : Some (SaysDim m.dimension) items
  pub nodes : Some (Declares node m.nodes) items
  pub faces : Some (Declares face m.faces) items
  pub cells : CellsAre items m.cells
  pub zones : m.zones ≡ parts_in items
  pub held : Holds items old m.held
