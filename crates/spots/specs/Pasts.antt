-- What stands at a place, as the definitions answer it: a place behind it stands for the tokens from there on. Assumes nothing.
use Rattle.std.specs.Prelude.{ℕ, ◌≤◌, ◌<◌, ◌≡◌, List, length, Result, Ok, Err}
use Rattle.facts.specs.declared.Taken.{Taken}
use Rattle.tokens.specs.Listed.{tokens_from}
use Rattle.layout.specs.Reading.{Got, got, bad}
use Rattle.spots.specs.declared.Bad.{Bad}

-- a next place lies behind this one, and within the file
abbrev pub Ahead : ℕ → List ℕ → ℕ → Type 0
Ahead at s n = (at < n) × (n ≤ length s)

-- ---- a thing of which only the place behind it is kept
abbrev pub past_view : List ℕ → Result ℕ Bad → Got Unit
past_view s (Ok n) = got tt (tokens_from s n)
past_view s (Err b) = bad b.why b.offset

abbrev pub PastAhead : ℕ → List ℕ → Result ℕ Bad → Type 0
PastAhead at s (Ok n) = Ahead at s n
PastAhead at s (Err b) = Unit

pub record PastAt (s : List ℕ) (at : ℕ) (r : Result ℕ Bad) (g : Got Unit) : Type 0 where
  pub says : past_view s r ≡ g
  pub ahead : PastAhead at s r

-- ---- a value and the place behind it, where v is what the value stands for
abbrev pub taken : {T : Type 0} → T → ℕ → Result (Taken T) Bad
taken x n = Ok (record { value = x; next = n })

abbrev pub taken_view : {T A : Type 0} → (T → A) → List ℕ → Result (Taken T) Bad → Got A
taken_view v s (Ok t) = got (v t.value) (tokens_from s t.next)
taken_view v s (Err b) = bad b.why b.offset

abbrev pub TakenAhead : {T : Type 0} → ℕ → List ℕ → Result (Taken T) Bad → Type 0
TakenAhead at s (Ok t) = Ahead at s t.next
TakenAhead at s (Err b) = Unit

pub record TakenAt {T A : Type 0} (v : T → A) (s : List ℕ) (at : ℕ) (r : Result (Taken T) Bad) (g : Got A) : Type 0 where
  pub says : taken_view v s r ≡ g
  pub ahead : TakenAhead at s r
