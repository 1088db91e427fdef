-- [01:Refusal numbers], 3 Number, "Offset of: that word": how far behind the word's first byte a refusal of it points. Assumes nothing.
use Rattle.std.specs.Prelude.{ℕ, List}
use Rattle.numbers.specs.declared.sort.Sort.{Sort}

unfoldable pub bad_at : Sort → List ℕ → ℕ
bad_at Sort.SectionId w = 0
bad_at Sort.Hexadecimal w = 0
bad_at Sort.Coordinate w = 0
