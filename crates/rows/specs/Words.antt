-- Words stored as they are read, whatever stands there. Steps of the code, which no mesher need read: on a good file they are the words that the text says (proofs/Good). Assumes nothing.
use Rattle.std.specs.Prelude.{ℕ, ◌≤◌, ◌≡◌, List, Option, Some, None}
use Rattle.std.proofs.lemmas.List.Edits.{sets}
use Rattle.again.specs.Again.{Taken, many}
use Rattle.twos.specs.declared.Two.{Two}
use Rattle.quick.specs.Quick.{known_of}
use Rattle.twos.specs.Twos.{TwoSays}

-- the number that the digits there say
abbrev pub word_at : List ℕ → ℕ → Taken ℕ ℕ
word_at s at = record { thing = (known_of s at).value; next = (known_of s at).next }

abbrev pub words_at : List ℕ → ℕ → ℕ → Taken ℕ (List ℕ)
words_at s n at = many (word_at s) n at

-- from `old` to `new`: what is taken stands from place k on, and r is the place of the file behind it
abbrev pub Puts : Taken ℕ (List ℕ) → ℕ → List ℕ → List ℕ → ℕ → Type 0
Puts t k old new r = (new ≡ sets old k t.thing) × (r ≡ t.next)

-- two words found together, where as many are left
abbrev pub TwoLeft : List ℕ → ℕ → ℕ → Option Two → Type 0
TwoLeft s at left (Some t) = (2 ≤ left) × TwoSays s at (Some t)
TwoLeft s at left None = Unit
