-- Bytes written one behind the other into what is lent, as far as it has room; decimal numbers. Assumes nothing.
use Rattle.std.specs.Prelude.{ℕ, zero, suc, ◌+◌, ◌/◌, ◌%◌, min, ◌≡◌, List, [], ◌∷◌, ◌++◌, true, false, ltb, length}
use Rattle.std.proofs.lemmas.List.Edits.{sets}

-- from `at` on: the bytes that have room are there, and `next` is the place behind them
pub record Wrote (old : List ℕ) (at : ℕ) (bytes new : List ℕ) (next : ℕ) : Type 0 where
  pub laid : new ≡ sets old at bytes
  pub place : next ≡ min (at + length bytes) (length old)

-- the figures of a number of at most so many
unfoldable pub figures : ℕ → ℕ → List ℕ
figures zero n = []
figures (suc w) n = elim (ltb n 10) [ true ↦ (48 + n) ∷ [] | false ↦ figures w (n / 10) ++ ((48 + n % 10) ∷ []) ]

-- "in decimal"
abbrev pub decimal : ℕ → List ℕ
decimal n = figures 20 n

-- "One blank between, one line feed ends each line."
abbrev pub behind : List ℕ → List ℕ
behind [] = 10 ∷ []
behind (n ∷ ns) = 32 ∷ (decimal n ++ behind ns)

abbrev pub line : List ℕ → List ℕ → List ℕ
line word ns = word ++ behind ns
