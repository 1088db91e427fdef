-- [02:M-101], the writer in the user's words, over the contract of `writer::write_flat`; proofs/Writing shows it of every call that meets its contract.
-- `Not` names a wrong program that the line shuts out, and the must-fail edit (crate/name) that shows the prover refusing it. To be believed: all of this file. Assumes nothing.
use Rattle.std.specs.Prelude.{ℕ, ◌<◌, ◌≡◌, ◌⊎◌, ◌↔◌, List, length, take, drop}
use contract.Lifetimes.{Lfts}
use denote.Triple.Entry.{Args, Res}
use denote.Triple.Clauses.{AtExit}
use Rattle.sizes.specs.Sizes.{file_bytes}
use Rattle.layout.specs.Rows.{Lent}
use Rattle.layout.specs.Says.{Mesh}
use Rattle.layout.specs.Read.{read_of}
use Rattle.layout.proofs.Exactly.{accepted_as}
use Rattle.texts.specs.Writable.{Given}
use Rattle.texts.specs.Same.{SameMesh, RoomFor}
use Rattle.texts.specs.Write.{Counted, mesh_text, Out, out}
use Rattle.writer.specs.Writer.{values_of, flat_mesh}
use Rattle.writer.specs.contracts.write_flat as write
use Rattle.writer.proofs.write_flat.Reads as writes

-- what the call is given, and the text that it is lent
abbrev pub tabled : (κ : Lfts 6) → Args write.signature κ → Mesh
tabled κ a =
    flat_mesh a.0 a.1.0 a.1.1.0 a.1.1.1.0 a.1.1.1.1.0.now a.1.1.1.1.1.0.now a.1.1.1.1.1.1.0.now
    a.1.1.1.1.1.1.1.0.now a.1.1.1.1.1.1.1.1.0.now

abbrev pub lent_text : (κ : Lfts 6) → Args write.signature κ → List ℕ
lent_text κ a = a.1.1.1.1.1.1.1.1.1.0.now

-- its answer with the paper's number, and the text as it leaves it
abbrev pub left : (κ : Lfts 6) → Res write.signature κ → AtExit write.ended κ → Out
left κ r x = out (values_of r) x.1.1.1.1.1.1.1.1.1.0.now

-- m is the mesh of the tables, `old` the text as it was lent, o what is answered and left
pub record Written (m : Mesh) (old : List ℕ) (o : Out) : Type 0 where
  -- "18 Unwritable for input that no text of the layout could give, its length apart". Not: unused places not looked at (texts/unused_places_not_looked_at)
  pub unwritable : (o.answer.number ≡ 18) ↔ (Given m → ⊥)
  -- "then 19 TextRoom exactly when the text is longer than the room or the reader's file size". Not: 19 first (texts/room_before_unwritable), a text as long as its room refused (writer/text_as_long_as_its_room_refused), a longer one cut (writer/text_cut_at_its_room)
  pub room : Given m → (o.answer.number ≡ 19) ↔ ((file_bytes < length (mesh_text m)) ⊎ (length old < length (mesh_text m)))
  pub numbered : (o.answer.number ≡ 0) ⊎ ((o.answer.number ≡ 18) ⊎ (o.answer.number ≡ 19))
  -- "A refusal leaves the lent text untouched." Not: written as far as there is room (texts/refusal_that_writes)
  pub untouched : (o.answer.number ≡ 0 → ⊥) → (o.answer.bytes ≡ 0) × (o.text ≡ old)
  -- the text stands first, and the bytes behind it are as they were. Not: a line feed left out (texts/missing_line_feed)
  pub first : o.answer.number ≡ 0 → (take o.answer.bytes o.text ≡ mesh_text m) × (drop o.answer.bytes o.text ≡ drop o.answer.bytes old)
  -- "Reading it, with as much room, gives back the same rows, records and dimension." Not: right and left cell exchanged (texts/right_and_left_exchanged), a leading zero (figures/leading_zero)
  pub back : o.answer.number ≡ 0 → (lent : Lent) → RoomFor m lent
      → (new : Mesh) × (read_of (take o.answer.bytes o.text) lent ≡ accepted_as new) × SameMesh m new
  -- "Exactly one text belongs to given tables", and to no others
  pub one : o.answer.number ≡ 0 → (n : Mesh) → Counted n → Given n → (mesh_text m ≡ mesh_text n) ↔ SameMesh m n

pub record MeshWritten (κ : Lfts 6) (a : Args write.signature κ) (r : Res write.signature κ) (x : AtExit write.ended κ) : Type 0 where
  -- no second answer and no second content
  pub only : (r' : Res write.signature κ) (x' : AtExit write.ended κ) → writes.Post κ a r' x' → left κ r x ≡ left κ r' x'
  pub written : Written (tabled κ a) (lent_text κ a) (left κ r x)
