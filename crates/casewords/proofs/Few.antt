-- A text has no more numbers than bytes, so that as many words of room hold them all. Assumes nothing.
use Rattle.std.specs.Prelude.{Option, Some, None}
use Prim.Native.Nat.{ℕ, suc, ◌≤◌}
use native.Mathlib.Omega.{arith}
use mathlib.Core.List.{List, [], ◌∷◌}
use lib.ListN.{length}
use Rattle.tokens.specs.Listed.{Tok, left, right, text, cut, word, tokens_of}
use Rattle.tokens.proofs.Listed.{tokens_length}
use Rattle.numbers.specs.Whole.{hexadecimal_of}
use Rattle.casewords.specs.Numbers.{with_number, numbers_in}

with_length : (v : Option ℕ) (vs : List ℕ) → length (with_number v vs) ≤ suc (length vs)
with_length None vs = omega arith
with_length (Some v) vs = omega arith

numbers_length : (ts : List Tok) → length (numbers_in ts) ≤ length ts
unfolding numbers_in
numbers_length [] = omega arith
numbers_length (left o ∷ ts) = omega (arith, numbers_length ts)
numbers_length (right o ∷ ts) = omega (arith, numbers_length ts)
numbers_length (text o ∷ ts) = omega (arith, numbers_length ts)
numbers_length (cut o ∷ ts) = omega (arith, numbers_length ts)
numbers_length (word o w ∷ ts) = omega (arith, numbers_length ts, with_length (hexadecimal_of w) (numbers_in ts))

pub few_numbers : (s : List ℕ) → length (numbers_in (tokens_of s)) ≤ length s
few_numbers s = omega (arith, numbers_length (tokens_of s), tokens_length s 0)
