-- The code's headers as the definitions' headers. Assumes nothing.
use Rattle.std.specs.Prelude.{ℕ, ◌≤◌, ◌≡◌, List, Option, Result, Ok, Err}
use Rattle.facts.specs.declared.Taken.{Taken}
use Rattle.layout.specs.Reading.{Got}
use Rattle.layout.specs.Sections as S
use Rattle.spots.specs.declared.Bad.{Bad}
use Rattle.spots.specs.declared.Head.{Head}
use Rattle.spots.specs.declared.Read.{Read}
use Rattle.spots.specs.Heads.{word_of, place_of, fifth_for, head_for}
use Rattle.spots.specs.Pasts.{taken_view, TakenAt}

abbrev pub head_view : List ℕ → Result (Taken Head) Bad → Got S.Head
head_view = taken_view head_for

abbrev pub HeadAt : List ℕ → ℕ → Result (Taken Head) Bad → Got S.Head → Type 0
HeadAt = TakenAt head_for

-- ---- a fifth word, which may be absent: then the place behind it is its own
abbrev pub word_for : Option Read → S.Word
word_for v = record { word = fifth_for (word_of v); at = place_of v }

abbrev pub FifthFrom : ℕ → Result (Taken (Option Read)) Bad → Type 0
FifthFrom at (Ok t) = at ≤ t.next
FifthFrom at (Err b) = Unit

pub record FifthAt (s : List ℕ) (at : ℕ) (r : Result (Taken (Option Read)) Bad) (g : Got S.Word) : Type 0 where
  pub says : taken_view word_for s r ≡ g
  pub from : FifthFrom at r
