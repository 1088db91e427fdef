-- The usual coordinate word: bytes from the next token's start on, behind which the word ends. Assumes nothing.
use Rattle.std.specs.Prelude.{ℕ, ◌+◌, List, true, false, take, drop, Option, Some, None}
use Rattle.sizes.specs.Sizes.{coordinate_bytes}
use Rattle.tokens.specs.Tokens.{start_of, ends_word}
use Rattle.decimals.specs.declared.decimal.Decimal.{Decimal}
use Rattle.facts.specs.declared.Taken.{Taken}
use Rattle.decimals.specs.Lead.{lead_of}
use Rattle.decimals.specs.Mild.{mild_of}

-- at most n bytes from the next token's start on
abbrev pub window : List ℕ → ℕ → ℕ → List ℕ
window s at n = take n (drop (start_of s at) s)

-- where only its place is wanted: a coordinate that is good whatever it says
abbrev pub went_by : List ℕ → ℕ → Option ℕ → Option ℕ
went_by s i (Some n) = elim (ends_word s (i + n)) [ true ↦ Some (i + n) | false ↦ None ]
went_by s i None = None

unfoldable pub went_of : List ℕ → ℕ → Option ℕ
went_of s at = went_by s (start_of s at) (mild_of (window s at coordinate_bytes))

-- a decimal, and the place behind it
abbrev pub led : Decimal → ℕ → Option (Taken Decimal)
led d n = Some (record { value = d; next = n })

-- where its decimal is wanted: n bytes from i on are read, and this is what they say
abbrev pub leads_by : List ℕ → ℕ → ℕ → Option Decimal → Option (Taken Decimal)
leads_by s i n (Some d) = elim (ends_word s (i + n)) [ true ↦ led d (i + n) | false ↦ None ]
leads_by s i n None = None

unfoldable pub leads_of : List ℕ → ℕ → Option (Taken Decimal)
leads_of s at = leads_by s (start_of s at) (lead_of (window s at coordinate_bytes)).next (lead_of (window s at coordinate_bytes)).value
