-- [02:M-101]. Bytes laid one behind the other into what is lent: those past its end are counted and left out. Assumes nothing.
use Rattle.std.specs.Prelude.{ℕ, ◌+◌, ◌≤◌, ◌<◌, min, ◌≡◌, List, [], ◌∷◌, ◌++◌, length}
use Rattle.std.proofs.lemmas.List.Edits.{sets}
use Rattle.figures.specs.Figures.{figures}

-- the largest place
abbrev pub most : ℕ
most = 18446744073709551615

-- from `at` on the bytes that have room are there, and `next` is the place behind all of them
pub record Put (old : List ℕ) (at : ℕ) (bytes new : List ℕ) (next : ℕ) : Type 0 where
  pub laid : new ≡ sets old at bytes
  pub place : next ≡ min (at + length bytes) most
  pub wide : length old ≤ most

-- all of them if they have room, and else none; `next` is the place behind all of them
pub record Whole (old : List ℕ) (at : ℕ) (bytes new : List ℕ) (next : ℕ) : Type 0 where
  pub laid : at + length bytes ≤ length old → new ≡ sets old at bytes
  pub none : length old < at + length bytes → new ≡ old
  pub place : next ≡ min (at + length bytes) most
  pub wide : length old ≤ most

-- with room for all of them they are there, and the rest is as it was; else nothing is said but the place behind them: enough for who measures first
pub record Laid (old : List ℕ) (at : ℕ) (bytes new : List ℕ) (next : ℕ) : Type 0 where
  pub laid : at + length bytes ≤ length old → new ≡ sets old at bytes
  pub place : next ≡ min (at + length bytes) most
  pub kept : length new ≡ length old
  pub wide : length old ≤ most

-- hexadecimal words, each behind its blank, the first behind `lead`
unfoldable pub words_bytes : ℕ → List ℕ → List ℕ
words_bytes lead [] = []
words_bytes lead (n ∷ ns) = lead ∷ (figures 16 n ++ words_bytes 32 ns)
