-- What is passed byte by byte up to the first that does not go on: a string's bytes, and what stands before a mark. Assumes nothing.
use Prim.Native.Nat.{ℕ, ◌+◌, ◌≤◌, ◌<◌}
use mathlib.Core.Path.{◌≡◌}
use mathlib.Core.List.{List}
use mathlib.Core.Bool.{Bool, true, false}
use lib.ListN.{length, get_or}
use Rattle.tokens.specs.declared.Run.{Run}
use Rattle.tokens.specs.Tokens.{run_at}
use Rattle.tokens.proofs.Laws.{run_more, run_stop, run_out}
use Rattle.finds.specs.Eights.{goes}

-- `to` is where the bytes that go on end
pub record Passes (goes : ℕ → Bool) (to : List ℕ → ℕ → ℕ) : Type 0 where
  pub more : (s : List ℕ) (i : ℕ) → i < length s → goes (get_or s i 0) ≡ true → to s (i + 1) ≡ to s i
  pub stop : (s : List ℕ) (i : ℕ) → i < length s → goes (get_or s i 0) ≡ false → i ≡ to s i
  pub out : (s : List ℕ) (i : ℕ) → length s ≤ i → i ≡ to s i

pub run_passes : (k : Run) → Passes (goes k) (run_at k)
run_passes k = record { more = run_more k; stop = run_stop k; out = run_out k }
