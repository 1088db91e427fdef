-- [02:M-101], "gives back the same rows, records and dimension". To be believed: all of this file. Assumes nothing.
use Rattle.std.specs.Prelude.{ℕ, ◌*◌, ◌<◌, ◌≡◌, List, pos, take, get_or}
use Rattle.mesh.specs.Rows.{places, face_words, cell_words, node_words}
use Rattle.layout.specs.Keeps.{Within}
use Rattle.layout.specs.Rows.{no_zone, Lent, room_of}
use Rattle.layout.specs.Says.{Mesh}

-- the first n words are the same
abbrev pub SameWords : {A : Type 0} → A → ℕ → List A → List A → Type 0
SameWords d n a b = (i : ℕ) → i < n → get_or a i d ≡ get_or b i d

-- the same dimension, totals, rows and records; what lies behind them may differ
pub record SameMesh (m n : Mesh) : Type 0 where
  pub dimension : m.dimension ≡ n.dimension
  pub nodes : m.nodes ≡ n.nodes
  pub faces : m.faces ≡ n.faces
  pub cells : m.cells ≡ n.cells
  pub zones : m.zones ≡ n.zones
  pub mantissas : SameWords (pos 0) (node_words * m.nodes) m.held.mantissas n.held.mantissas
  pub exponents : SameWords (pos 0) (node_words * m.nodes) m.held.exponents n.held.exponents
  pub face_rows : SameWords 0 (face_words places * m.faces) m.held.faces n.held.faces
  pub cell_rows : SameWords 0 (cell_words * m.cells) m.held.cells n.held.cells
  pub records : SameWords no_zone m.zones m.held.zones n.held.zones

-- "with as much room": whole rows for the totals, and a place for every record
pub record RoomFor (m : Mesh) (lent : Lent) : Type 0 where
  pub nodes : Within (room_of lent).nodes m.nodes
  pub faces : Within (room_of lent).faces m.faces
  pub cells : Within (room_of lent).cells m.cells
  pub zones : Within (room_of lent).zones m.zones

-- a mesh that was read, as it is lent to the writer: "every record lent", and only those that reading wrote
abbrev pub cut_to : ℕ → Lent → Lent
cut_to n l = record { mantissas = l.mantissas; exponents = l.exponents; faces = l.faces; cells = l.cells; zones = take n l.zones }

abbrev pub lent_as : Mesh → Mesh
lent_as m = record { dimension = m.dimension; nodes = m.nodes; faces = m.faces; cells = m.cells; zones = m.zones; held = cut_to m.zones m.held }
