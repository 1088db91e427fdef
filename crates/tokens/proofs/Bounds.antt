-- A token other than the end starts at or behind the cursor, ends behind its start and in the file; the end is at the file's length. Assumes nothing.
use Prim.Native.Nat.{ℕ, suc, ◌+◌, ◌≤◌, ◌<◌}
use native.Mathlib.Omega.{arith}
use mathlib.Core.Path.{◌≡◌, refl}
use mathlib.Core.List.{List, [], ◌∷◌}
use mathlib.Core.Bool.{Bool, true, false}
use borrow.Author.Tests.{ltb-true}
use lib.Dec.{T, ltb}
use lib.ListN.{length, drop, get_or, length-drop}
use Rattle.facts.proofs.Branch.{either}
use Rattle.tokens.specs.declared.Class.{Class}
use Rattle.tokens.specs.declared.Run.{Run}
use Rattle.tokens.specs.declared.Token.{Token}
use Rattle.tokens.specs.declared.Step.{Step}
use Rattle.tokens.specs.Tokens.{class_of, goes_on, run_end, run_at, text_to, token_of, token_from, token_at}

run_ends : (k : Run) (r : List ℕ) (i : ℕ) → (i ≤ run_end k r i) × (run_end k r i ≤ i + length r)
unfolding run_end
run_ends k [] i = omega arith
run_ends k (b ∷ r) i =
    let h = run_ends k r (suc i) in
    either (λ n. (i ≤ n) × (n ≤ i + length (b ∷ r))) (goes_on k (class_of b)) (λ _. omega arith) (λ _. omega arith)

run_within : (k : Run) (s : List ℕ) (i : ℕ) → i ≤ length s → (i ≤ run_at k s i) × (run_at k s i ≤ length s)
unfolding run_at
run_within k s i h = omega (arith, run_ends k (drop i s) i, length-drop i s)

-- a token of this sort has bytes
abbrev pub solid : Token → Bool
solid Token.Left = true
solid Token.Right = true
solid Token.Text = true
solid Token.Word = true
solid Token.Unclosed = true
solid Token.End = false

-- a token at or behind `at`, in a file of this size
pub record Moved (at size : ℕ) (t : Step) : Type 0 where
  pub from : at ≤ t.start
  pub more : t.start < t.next.at
  pub most : t.next.at ≤ size

abbrev pub Moves : ℕ → ℕ → Step → Type 0
Moves at size t = T (solid t.token) → Moved at size t

-- where the end stands
abbrev Ends : ℕ → Step → Type 0
Ends size t = t.token ≡ Token.End → t.start ≡ size

module _ (s : List ℕ) where
  text_moves : (i e : ℕ) → i < e → e ≤ length s → Moved i (length s) (text_to s i e)
  unfolding text_to
  text_moves i e g h = either (Moved i (length s)) (ltb e (length s)) (λ p. omega (arith, ltb-true)) (λ p. omega arith)

  of_moves : (k : Class) (i : ℕ) → i < length s → Moved i (length s) (token_of k s i)
  unfolding token_of
  of_moves Class.Blank i h = omega arith
  of_moves Class.Left i h = omega arith
  of_moves Class.Right i h = omega arith
  of_moves Class.Quote i h = let r = run_within Run.Text s (i + 1) (omega arith) in text_moves i _ (omega arith) (omega arith)
  of_moves Class.Other i h = let r = run_within Run.Word s (i + 1) (omega arith) in omega arith

  from_moves : (i : ℕ) → Moves i (length s) (token_from s i)
  unfolding token_from
  from_moves i = either (Moves i (length s)) (ltb i (length s)) (λ p _. of_moves _ i (ltb-true _ _ p)) (λ p n. absurd n)

  pub token_moves : (at : ℕ) → Moves at (length s) (token_at s at)
  unfolding token_at run_at
  token_moves at n =
      let r = run_ends Run.Blanks (drop at s) at in
      let m = from_moves (run_at Run.Blanks s at) n in
      record { from = omega arith; more = m.more; most = m.most }

  from_within : (i : ℕ) → (token_from s i).start ≤ length s
  unfolding token_from
  from_within i =
      either (λ (t : Step). t.start ≤ length s) (ltb i (length s))
      (λ p. let m = of_moves (class_of (get_or s i 0)) i (ltb-true _ _ p) in omega arith)
      (λ p. omega arith)

  pub start_within : (at : ℕ) → (token_at s at).start ≤ length s
  unfolding token_at
  start_within at = from_within (run_at Run.Blanks s at)

  text_solid : (i e : ℕ) → T (solid (text_to s i e).token)
  unfolding text_to
  text_solid i e = either (λ (t : Step). T (solid t.token)) (ltb e (length s)) (λ _. tt) (λ _. tt)

  of_solid : (k : Class) (i : ℕ) → T (solid (token_of k s i).token)
  unfolding token_of
  of_solid Class.Blank i = tt
  of_solid Class.Left i = tt
  of_solid Class.Right i = tt
  of_solid Class.Quote i = text_solid i _
  of_solid Class.Other i = tt

  from_ends : (i : ℕ) → Ends (length s) (token_from s i)
  unfolding token_from
  from_ends i =
      either (Ends (length s)) (ltb i (length s)) (λ _ q. absurd (rw q at (of_solid (class_of (get_or s i 0)) i))) (λ _ _. refl)

  pub end_start : (at : ℕ) → (token_at s at).token ≡ Token.End → (token_at s at).start ≡ length s
  unfolding token_at
  end_start at = from_ends (run_at Run.Blanks s at)
