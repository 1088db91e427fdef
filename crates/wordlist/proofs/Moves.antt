-- A token other than the end takes the cursor on, and stays in the file. Assumes nothing.
use Prim.Native.Nat.{ℕ, ◌-◌, ◌<◌}
use native.Mathlib.Omega.{arith}
use mathlib.Core.Path.{◌≡◌, sym}
use mathlib.Core.List.{List}
use lib.Dec.{T}
use lib.ListN.{length}
use Rattle.tokens.specs.declared.Token.{Token}
use Rattle.tokens.specs.declared.Cursor.{Cursor}
use Rattle.tokens.specs.declared.Step.{Step}
use Rattle.tokens.specs.Tokens.{token_at}
use Rattle.tokens.proofs.Bounds.{solid, Moved, token_moves}
use Rattle.std.specs.Prelude.{Some}
use Rattle.wordlist.specs.Turn.{Ahead}

module _ (s : List ℕ) (at : ℕ) (t : Step) (k : Token) (e : t ≡ token_at s at) (told : t.token ≡ k) (h : T (solid k)) where
  pub moved : Moved at (length s) t
  moved = rw e (token_moves s at (rw (sym e) (rw told h)))

  pub goes_ahead : Ahead at (length s) (Some t.next)
  goes_ahead = let m = moved in (omega (arith, m.from, m.more), m.most)
