-- Node rows stored as they are read, whatever stands there. Steps of the code, which no mesher need read: on a good file they are the rows that the text says (proofs/Good). Assumes nothing.
use Rattle.std.specs.Prelude.{ℕ, min, ◌≡◌, List, map, ℤ, pos}
use Rattle.std.proofs.lemmas.List.Edits.{sets}
use Rattle.mesh.specs.Rows.{node_words}
use Rattle.tokens.specs.Listed.{Tok, tokens_from}
use Rattle.layout.specs.Items.{Pair}
use Rattle.layout.specs.Rows.{joined, pad}
use Rattle.layout.specs.Reading.{Got, got, bad, pair_word}
use Rattle.facts.specs.declared.Taken as facts
use Rattle.decimals.specs.declared.decimal.Decimal.{Decimal}
use Rattle.points.specs.declared.pair.Lent.{Lent}
use Rattle.again.specs.Again.{Taken, many}
use Rattle.steps.specs.Views.{pair_for}

-- mantissas and exponents side by side
pub record Both : Type 0 where
  pub mantissas : List ℤ
  pub exponents : List ℤ

abbrev pub both : List ℤ → List ℤ → Both
both ms es = record { mantissas = ms; exponents = es }

-- what the lent slices hold
abbrev pub seen : Lent → Both
seen x = both x.mantissas.now x.exponents.now

-- the same slices are still lent
abbrev pub Kept : Lent → Lent → Type 0
Kept x y = (y.mantissas.ghost_name ≡ x.mantissas.ghost_name) × (y.exponents.ghost_name ≡ x.exponents.ghost_name)

abbrev pub set_pairs : Both → ℕ → List Pair → Both
set_pairs b k ps = record { mantissas = sets b.mantissas k (map (λ p. p.mantissa) ps); exponents = sets b.exponents k (map (λ p. p.exponent) ps) }

abbrev pub origin : Pair
origin = record { mantissa = pos 0; exponent = pos 0 }

-- a coordinate; where none stands, 0, and the same tokens are still to come
abbrev pub taken_by : Got Pair → List Tok → Taken (List Tok) Pair
taken_by (got p us) ts = record { thing = p; next = us }
taken_by (bad w o) ts = record { thing = origin; next = ts }

unfoldable pub pair_taken : ℕ → List Tok → Taken (List Tok) Pair
pair_taken size ts = taken_by (pair_word size ts) ts

abbrev pub pairs_taken : ℕ → ℕ → List Tok → Taken (List Tok) (List Pair)
pairs_taken size n ts = many (pair_taken size) n ts

-- the row of a node with d coordinates
abbrev pub point_taken : ℕ → ℕ → List Tok → Taken (List Tok) (List Pair)
point_taken size d ts = record { thing = pad node_words origin (pairs_taken size d ts).thing; next = (pairs_taken size d ts).next }

-- n rows one behind the other
unfoldable pub points_taken : ℕ → ℕ → ℕ → List Tok → List Pair
points_taken size d n ts = joined (many (λ us. point_taken size d us) n ts).thing

-- no node row has more coordinates
abbrev pub coordinates_in : ℕ → ℕ
coordinates_in d = min d node_words

-- ---- what the code answers
abbrev pub Took : List ℕ → Taken (List Tok) Pair → facts.Taken Decimal → Type 0
Took s t r = (pair_for r.value ≡ t.thing) × (tokens_from s r.next ≡ t.next)

-- from `old` to `new`: what is taken stands from place k on, and the tokens behind it are those from r on
abbrev pub Puts : List ℕ → Taken (List Tok) (List Pair) → ℕ → Both → Both → ℕ → Type 0
Puts s t k old new r = (new ≡ set_pairs old k t.thing) × (tokens_from s r ≡ t.next)
