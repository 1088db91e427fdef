-- The code's answers as the definitions' answers: a place stands for the tokens from there on. Assumes nothing.
use Rattle.std.specs.Prelude.{ℕ, ℤ, List, Option, None, Result}
use Rattle.facts.specs.declared.Taken.{Taken}
use Rattle.numbers.specs.declared.sort.Sort.{Sort}
use Rattle.numbers.specs.Whole.{hexadecimal_of, section_id_of}
use Rattle.decimals.specs.declared.decimal.Decimal.{Decimal}
use Rattle.layout.specs.Items as Items
use Rattle.layout.specs.Reading as R
use Rattle.layout.specs.Reading.{Got}
use Rattle.spots.specs.declared.Bad.{Bad}
use Rattle.spots.specs.declared.Read.{Read}
use Rattle.spots.specs.Heads.{read_for}
use Rattle.spots.specs.Pasts.{taken, taken_view, TakenAt}

-- ---- a `)`: where it stands
abbrev pub close_view : List ℕ → Result (Taken ℕ) Bad → Got ℕ
close_view = taken_view (λ i. i)

abbrev pub CloseAt : List ℕ → ℕ → Result (Taken ℕ) Bad → Got ℕ → Type 0
CloseAt = TakenAt (λ i. i)

-- ---- a number, and where its word starts
abbrev pub num_read : ℕ → ℕ → ℕ → Result (Taken Read) Bad
num_read v i n = taken (record { value = v; at = i }) n

abbrev pub num_view : List ℕ → Result (Taken Read) Bad → Got R.Read
num_view = taken_view read_for

abbrev pub NumAt : List ℕ → ℕ → Result (Taken Read) Bad → Got R.Read → Type 0
NumAt = TakenAt read_for

-- ---- a coordinate
abbrev pub pair_for : Decimal → Items.Pair
pair_for d = record { mantissa = d.mantissa; exponent = d.exponent }

abbrev pub pair_read : ℤ → ℤ → ℕ → Result (Taken Decimal) Bad
pair_read m e n = taken (record { mantissa = m; exponent = e }) n

abbrev pub pair_view : List ℕ → Result (Taken Decimal) Bad → Got Items.Pair
pair_view = taken_view pair_for

abbrev pub PairAt : List ℕ → ℕ → Result (Taken Decimal) Bad → Got Items.Pair → Type 0
PairAt = TakenAt pair_for

-- the whole number of a sort; a coordinate is none
abbrev pub whole_for : Sort → List ℕ → Option ℕ
whole_for Sort.SectionId w = section_id_of w
whole_for Sort.Hexadecimal w = hexadecimal_of w
whole_for Sort.Coordinate w = None
