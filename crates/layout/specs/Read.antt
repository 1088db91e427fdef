-- [01:Refusal numbers]. Reading, executable: from the bytes and what is lent to the answer and what the lent tables and list then hold. Assumes nothing.
use Rattle.layout.specs.Replies.{Reply, accepts, refuses}
use Rattle.std.specs.Prelude.{ℕ, zero, suc, List, [], ◌∷◌, Bool, true, false, ◌&&◌, not, leb, eqb, length}
use Rattle.std.proofs.lemmas.List.Edits.{sets}
use Rattle.sizes.specs.Sizes.{file_bytes}
use Rattle.tokens.specs.Listed.{Tok, left, right, text, cut, word, tokens_of}
use Rattle.layout.specs.declared.Refusal.{Refusal}
use Rattle.layout.specs.Items.{Item}
use Rattle.layout.specs.Keeps.{Room}
use Rattle.layout.specs.Rows.{Piece, pieces_of, mantissa_table, exponent_table, face_table, cell_table, zone_pieces, Lent, room_of}
use Rattle.layout.specs.Reading.{Got, got, bad}
use Rattle.layout.specs.State.{Per, State, start, after, tiled}
use Rattle.layout.specs.Sections.{section_of}
use Rattle.layout.specs.Replies.{Shown, shown}

-- accepted with the last state and all items, or refused with a section and an offset
pub data Answer : Type 0 where
  accepted : State → List Item → Answer
  refused : Refusal → ℕ → ℕ → Answer

abbrev pub tiled_per : Per → Bool
tiled_per p = tiled p.spans p.total

-- "At the end: 13, 10, 14."
abbrev pub ending : Bool → Bool → Bool → Answer → ℕ → ℕ → Answer
ending declared known covered a k size =
    elim declared [
      | true ↦ elim known [ true ↦ elim covered [ true ↦ a | false ↦ refused Refusal.Untiled k size ] | false ↦ refused Refusal.Dimension k size ]
      | false ↦ refused Refusal.Missing k size
    ]

abbrev pub onward : Got Item → ℕ → (Item → List Tok → Answer) → Answer
onward (got i ts) k f = f i ts
onward (bad w o) k f = refused w k o

abbrev pub behind : Item → Answer → Answer
behind i (accepted x is) = accepted x (i ∷ is)
behind i (refused w k o) = refused w k o

module _ (size : ℕ) where
  unfoldable pub end_of : State → ℕ → Answer
  end_of x k =
      ending (x.nodes.declared && x.faces.declared) (not (eqb x.dimension 0))
      (tiled_per x.nodes && (tiled_per x.cells && tiled_per x.faces)) (accepted x []) k size

  -- "Section is the number of top-level opening parentheses read so far": k. At most n sections, of which there are no more than tokens
  unfoldable pub file_of : Room → ℕ → State → ℕ → List Tok → Answer
  file_of room zero x k ts = refused Refusal.Grammar k size
  file_of room (suc n) x k [] = end_of x k
  file_of room (suc n) x k (left o ∷ ts) = onward (section_of size room x ts) (suc k) (λ i us. behind i (file_of room n (after x i) (suc k) us))
  file_of room (suc n) x k (right o ∷ ts) = refused Refusal.Grammar k o
  file_of room (suc n) x k (text o ∷ ts) = refused Refusal.Grammar k o
  file_of room (suc n) x k (cut o ∷ ts) = refused Refusal.Grammar k o
  file_of room (suc n) x k (word o w ∷ ts) = refused Refusal.Grammar k o

abbrev pub tokens_answer : ℕ → Room → List Tok → Answer
tokens_answer size room ts = file_of size room (suc (length ts)) start 0 ts

-- "TooLong: file over its size; 0, section 0", "Order: 1 first."
unfoldable pub answer_of : Room → List ℕ → Answer
answer_of room s = elim (leb (length s) file_bytes) [ true ↦ tokens_answer (length s) room (tokens_of s) | false ↦ refused Refusal.TooLong 0 0 ]

-- ---- the tables
unfoldable pub lay : {A : Type 0} → List (Piece A) → List A → List A
lay [] old = old
lay (p ∷ ps) old = lay ps (sets old p.at p.words)

abbrev pub filled : List Item → Lent → Lent
filled is old =
    record {
      mantissas = lay (pieces_of mantissa_table is) old.mantissas;
      exponents = lay (pieces_of exponent_table is) old.exponents;
      faces = lay (pieces_of face_table is) old.faces;
      cells = lay (pieces_of cell_table is) old.cells;
      zones = lay (zone_pieces is) old.zones;
    }

pub record Result : Type 0 where
  pub reply : Reply
  pub held : Lent

-- the paper's number and values of the answer, and what is then held
pub record Outcome : Type 0 where
  pub shown : Shown
  pub held : Lent

abbrev pub outcome : Result → Outcome
outcome r = record { shown = shown r.reply; held = r.held }

-- "A refusal .. changes no table or list."
abbrev pub result_of : Answer → Lent → Result
result_of (accepted x is) old =
    record { reply = accepts x.dimension x.nodes.total x.faces.total x.cells.total x.zones; held = filled is old }
result_of (refused w k o) old = record { reply = refuses w k o; held = old }

unfoldable pub read_of : List ℕ → Lent → Result
read_of s old = result_of (answer_of (room_of old) s) old
