-- A refusal has one of the paper's numbers, points into the file, and changes nothing. Assumes nothing.
use Rattle.std.specs.Prelude.{Err}
use Rattle.layout.specs.declared.Refused.{Refused}
use Rattle.layout.specs.Replies.{Reply, refuses}
use Prim.Native.Nat.{ℕ, zero, suc, ◌+◌, ◌≤◌}
use native.Mathlib.Omega.{arith}
use native.Mathlib.Nat.{le_refl}
use mathlib.Core.Path.{◌≡◌, refl, ap}
use mathlib.Core.List.{List, [], ◌∷◌, ◌++◌}
use mathlib.Core.Bool.{Bool, true, false, ◌&&◌, not}
use lib.Dec.{leb, eqb}
use lib.ListN.{length}
use Rattle.facts.proofs.Branch.{either}
use Rattle.sizes.specs.Sizes.{file_bytes}
use Rattle.tokens.specs.Listed.{Tok, left, right, text, cut, word, tokens_of}
use Rattle.tokens.proofs.Text.{text_exactly}
use Rattle.layout.specs.declared.Refusal.{Refusal}
use Rattle.layout.specs.Items.{Item}
use Rattle.layout.specs.Keeps.{Room}
use Rattle.layout.specs.Rows.{Lent, room_of}
use Rattle.layout.specs.Replies.{number_of, sections_in, Points}
use Rattle.layout.specs.Reading.{Got}
use Rattle.layout.specs.State.{State, start, after}
use Rattle.layout.specs.Read.{Answer, accepted, refused, tiled_per, ending, onward, behind, end_of, file_of, answer_of, result_of, read_of}
use Rattle.layout.proofs.Answers.{Held, held, none}
use Rattle.layout.proofs.Sums.{Seen, none_seen, one_more}
use Rattle.layout.proofs.SoundSections.{section_holds}
use Rattle.layout.proofs.Levels.{section_level}
use Rattle.layout.proofs.SafeWords.{AllIn, one_in, text_in, Safe, safe, points}
use Rattle.layout.proofs.Safe.{section_safe}

pub number_of_within : (w : Refusal) → (1 ≤ number_of w) × (number_of w ≤ 14)
number_of_within Refusal.TooLong = omega arith
number_of_within Refusal.Grammar = omega arith
number_of_within Refusal.Number = omega arith
number_of_within Refusal.Binary = omega arith
number_of_within Refusal.Undeclared = omega arith
number_of_within Refusal.Range = omega arith
number_of_within Refusal.TableRoom = omega arith
number_of_within Refusal.Overlap = omega arith
number_of_within Refusal.Type = omega arith
number_of_within Refusal.Dimension = omega arith
number_of_within Refusal.ZoneRoom = omega arith
number_of_within Refusal.Depth = omega arith
number_of_within Refusal.Missing = omega arith
number_of_within Refusal.Untiled = omega arith

-- within m sections and n bytes
data Placed (m n : ℕ) : Answer → Type 0 where
  all_read : {x : State} {is : List Item} → Placed m n (accepted x is)
  placed : {w : Refusal} {k o : ℕ} → k ≤ m → o ≤ n → Placed m n (refused w k o)

module _ (size m : ℕ) (room : Room) where
  ending_placed : (a b c : Bool) (x : State) (k : ℕ) → k ≤ m → Placed m size (ending a b c (accepted x []) k size)
  ending_placed true true true x k l = all_read
  ending_placed true true false x k l = placed l (le_refl size)
  ending_placed true false c x k l = placed l (le_refl size)
  ending_placed false b c x k l = placed l (le_refl size)

  end_placed : (x : State) (k : ℕ) → k ≤ m → Placed m size (end_of size x k)
  unfolding end_of
  end_placed x k l =
      ending_placed (x.nodes.declared && x.faces.declared) (not (eqb x.dimension 0))
      (tiled_per x.nodes && (tiled_per x.cells && tiled_per x.faces)) x k l

  behind_placed : (i : Item) {a : Answer} → Placed m size a → Placed m size (behind i a)
  behind_placed i all_read = all_read
  behind_placed i (placed l o) = placed l o

  onward_placed : {P : Item → List Tok → Type 0} {Q : Item → Type 0} {g : Got Item} {k : ℕ} {f : Item → List Tok → Answer} → k ≤ m → Held P g → Safe size Q g
      → ((i : Item) (us : List Tok) → P i us → AllIn size us → Placed m size (f i us)) → Placed m size (onward g k f)
  onward_placed l (held {a} {us} p) (safe q i) h = h a us p i
  onward_placed l none (points o) h = placed l o

  file_placed : (n : ℕ) (before : List Item) (x : State) → Seen before x → (k : ℕ) (ts : List Tok) → AllIn size ts → k + sections_in ts ≤ m
      → Placed m size (file_of size room n x k ts)
  unfolding file_of
  file_placed zero before x s k ts i l = let h : k ≤ m = omega arith in placed h (le_refl size)
  file_placed (suc n) before x s k [] i l = end_placed x k (omega arith)
  file_placed (suc n) before x s k (left o ∷ ts) (one_in p i) l =
      let h : suc k ≤ m = omega arith in
      onward_placed h (section_holds size before x s room ts) (section_safe size room x ts i) λ a us g j.
      behind_placed a (file_placed n (before ++ (a ∷ [])) (after x a) (one_more before x s room a g.1) (suc k) us j
      (omega (arith, section_level g.0)))
  file_placed (suc n) before x s k (right o ∷ ts) (one_in p i) l = let h : k ≤ m = omega arith in placed h p
  file_placed (suc n) before x s k (text o ∷ ts) (one_in p i) l = let h : k ≤ m = omega arith in placed h p
  file_placed (suc n) before x s k (cut o ∷ ts) (one_in p i) l = let h : k ≤ m = omega arith in placed h p
  file_placed (suc n) before x s k (word o w ∷ ts) (one_in p i) l = let h : k ≤ m = omega arith in let q : o ≤ size = omega (arith, p) in placed h q

answer_placed : (room : Room) (s : List ℕ) → Placed (sections_in (tokens_of s)) (length s) (answer_of room s)
unfolding answer_of
answer_placed room s =
    either (Placed (sections_in (tokens_of s)) (length s)) (leb (length s) file_bytes)
    (λ _. file_placed (length s) (sections_in (tokens_of s)) room _ [] start none_seen 0 (tokens_of s)
    (text_in (length s) ((text_exactly s (tokens_of s)).0 refl) (omega arith)) (omega arith))
    (λ _. let a : 0 ≤ sections_in (tokens_of s) = omega arith in let b : 0 ≤ length s = omega arith in placed a b)

module _ (s : List ℕ) (old : Lent) (w : Refusal) (k o : ℕ) where
  by_answer : {a : Answer} → Placed (sections_in (tokens_of s)) (length s) a → (result_of a old).reply ≡ refuses w k o
      → Points s w k o × ((result_of a old).held ≡ old)
  by_answer all_read e = absurd (let z : ◌≡◌ {A = ℕ} 0 1 = cc in omega arith)
  by_answer (placed {k = j} {o = q} l h) e =
      let same = said e in
      let a = ap (λ (x : Refused). x.section) same in
      let b = ap (λ (x : Refused). x.offset) same in
      (record { low = (number_of_within w).0; high = (number_of_within w).1; section = omega arith; offset = omega arith }, refl)
    where
      said : {a b : Refused} → ◌≡◌ {A = Reply} (Err a) (Err b) → a ≡ b
      said e = cc

  -- the law
  pub refusal_points : (read_of s old).reply ≡ refuses w k o → Points s w k o × ((read_of s old).held ≡ old)
  unfolding read_of
  refusal_points e = by_answer (answer_placed (room_of old) s) e
