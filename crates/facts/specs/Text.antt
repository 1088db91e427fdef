-- A quoted text as the list of its bytes, for closed examples.
use Rattle.std.specs.Prelude.{ℕ, List, [], ◌∷◌}
use Prim.Native.Char.{code}
use Prim.Native.String.{String, [] as []ᵗ, ◌∷◌ as ◌∷ᵗ◌}

abbrev pub bytes : String → List ℕ
bytes []ᵗ = []
bytes (c ∷ᵗ s) = code c ∷ bytes s
