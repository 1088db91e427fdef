-- Words passed in blocks of eight bytes. Nothing here has to be believed: the public contract does not cite it. Assumes nothing.
use Rattle.std.specs.Prelude.{ℕ, ◌+◌, ◌≤◌, ◌≡◌, List, Bool, ◌&&◌, leb, length}
use Rattle.tokens.specs.Listed.{tokens_from}
use Rattle.layout.specs.Reading.{rows_of}
use Rattle.bodies.specs.declared.hexes.Rest.{Rest}
use Rattle.bodies.specs.Bodies.{forget, hex_unit}

-- all eight bytes are there, and no more words can end in them than are left
abbrev pub goes_for : ℕ → ℕ → ℕ → Bool
goes_for left c size = leb 8 left && leb (c + 8) size

-- what is left of n words, from the next place on, is what there was
pub record Gone (s : List ℕ) (at n : ℕ) (r : Rest) : Type 0 where
  pub from : at ≤ r.next
  pub same : forget (rows_of (length s) (hex_unit (length s)) r.left (tokens_from s r.next)) ≡ forget (rows_of (length s) (hex_unit (length s)) n (tokens_from s at))
