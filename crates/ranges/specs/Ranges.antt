-- Room, as the code has it. Assumes nothing.
use Rattle.std.specs.Prelude.{ℕ, Option, Some, None}
use Rattle.layout.specs.Keeps as Keeps

abbrev pub limit_for : Option ℕ → Keeps.Limit
limit_for None = Keeps.unlimited
limit_for (Some n) = Keeps.most n
