-- Where a run of bytes ends among eight bytes. Nothing here has to be believed: the public contracts do not cite it. Assumes nothing.
use Rattle.std.specs.Prelude.{ℕ, ◌≡◌, ◌<◌, ◌+◌, List, map, length, Bool, true, false, Result, Ok, Err}
use Rattle.tokens.specs.declared.Run.{Run}
use Rattle.tokens.specs.Tokens.{class_of, goes_on, run_at}
use Rattle.digits.specs.Lanes.{lanes, Under}

-- a lane's highest bit, set where a byte does not go on
abbrev pub off : Bool → ℕ
off p = elim p [ true ↦ 0 | false ↦ 128 ]

-- a byte that goes on with the run
abbrev pub goes : Run → ℕ → Bool
goes k b = goes_on k (class_of b)

-- what is answered of eight lanes has that bit of each; a lane with no byte in it has none
pub record Shows (goes : ℕ → Bool) (answers : ℕ → ℕ → Type 0) : Type 0 where
  pub lanewise : (w : List ℕ) (r : ℕ) → length w ≡ 8 → Under 256 w → answers (lanes 8 w) r → r ≡ lanes 8 (map (λ b. off (goes b)) w)
  pub nought : goes 0 ≡ true

-- where the run ends, or a place within it from which fewer than eight bytes are left
abbrev pub Searched : Run → List ℕ → ℕ → Result ℕ ℕ → Type 0
Searched k s at (Ok found) = found ≡ run_at k s at
Searched k s at (Err last) = (run_at k s last ≡ run_at k s at) × (length s < last + 8)
