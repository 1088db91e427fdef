-- What the loop over the tokens needs of one turn, so that it ends. Assumes nothing.
use Rattle.std.specs.Prelude.{ℕ, ◌≤◌, ◌<◌, Option, Some, None}
use Rattle.tokens.specs.declared.Cursor.{Cursor}

-- where it goes on, it goes on further behind, in the file
abbrev pub Ahead : ℕ → ℕ → Option Cursor → Type 0
Ahead at size (Some c) = (at < c.at) × (c.at ≤ size)
Ahead at size None = Unit
