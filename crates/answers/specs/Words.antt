-- What a call answers, with every number a word of a slice. To be believed: all of this file. Assumes nothing.
use Rattle.std.specs.Prelude.{ℕ, List, [], ◌∷◌}
use Rattle.layout.specs.Replies.{Shown}
use Rattle.audit.specs.Audit.{Values}
use Rattle.texts.specs.Write as Write

-- "section, offset, the dimension, the three totals and the zone count", the number being the answer itself
abbrev pub read_words : Shown → List ℕ
read_words a = a.section ∷ a.offset ∷ a.dimension ∷ a.nodes ∷ a.faces ∷ a.cells ∷ a.zones ∷ []

-- "total, bytes written"
abbrev pub audit_words : Values → List ℕ
audit_words v = v.total ∷ v.bytes ∷ []

-- the length of the text
abbrev pub write_words : Write.Values → List ℕ
write_words v = v.bytes ∷ []
