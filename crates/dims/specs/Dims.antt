-- The dimension that a fifth word gives, and whether it agrees with the one known before. Assumes nothing.
use Rattle.std.specs.Prelude.{ℕ, Bool, true, ◌||◌, not, eqb, Option, None}
use Rattle.layout.specs.Items as Items
use Rattle.spots.specs.declared.Kind.{Kind}

abbrev pub dim_word_for : Kind → Option ℕ → Option ℕ
dim_word_for Kind.Node v = v
dim_word_for Kind.Cell v = None
dim_word_for Kind.Face v = None

abbrev pub agrees : ℕ → Items.Perhaps → Bool
agrees d Items.absent = true
agrees d (Items.given n) = eqb d 0 || eqb d n

abbrev pub known : Kind → ℕ → Bool
known Kind.Node d = not (eqb d 0)
known Kind.Cell d = true
known Kind.Face d = true
