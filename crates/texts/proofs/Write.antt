-- [02:M-101]. THE THEOREMS of the writer, over its definition. Assumes nothing.
use Prim.Native.Nat.{ℕ, ◌≤◌, ◌<◌}
use native.Mathlib.Omega.{arith}
use mathlib.Core.Path.{◌≡◌, refl}
use mathlib.Core.Logic.{◌⊎◌, inl, inr, ◌↔◌}
use mathlib.Core.List.{List, ◌++◌}
use mathlib.Core.Bool.{true, false}
use lib.Dec.{leb}
use lib.ListN.{length, take, drop, length-append, length-drop}
use lib.Seq.{take-append_seam, drop-append_seam}
use borrow.Author.Tests.{leb-false}
use Rattle.facts.proofs.Branch.{split, either, differ}
use Rattle.facts.proofs.Decides.{Decides, le_is, and_is, either_of}
use Rattle.sizes.specs.Sizes.{file_bytes}
use Rattle.layout.specs.Rows.{Lent}
use Rattle.layout.specs.Says.{Mesh}
use Rattle.layout.specs.Read.{read_of, filled}
use Rattle.layout.proofs.Exactly.{accepted_as}
use Rattle.texts.specs.Tabled.{items_of}
use Rattle.texts.specs.Writable.{Given}
use Rattle.texts.specs.Same.{SameMesh, RoomFor}
use Rattle.texts.specs.Judged.{writable_of}
use Rattle.texts.specs.Write.{Counted, mesh_text, values, Out, out, has_room, write_of}
use Rattle.texts.proofs.Written.{writable_is, written_exactly}
use Rattle.texts.proofs.Back.{mesh_back}
use Rattle.texts.proofs.Alike.{text_alike}
use Rattle.texts.proofs.Room.{has_room_lem}
use Rattle.texts.proofs.Once.{over, read_there, same_there, text_once}

room_is : (t old : List ℕ) → Decides (has_room t old) ((length t ≤ file_bytes) × (length t ≤ length old))
room_is t old = and_is (le_is (length t) file_bytes) (le_is (length t) (length old))

no_room : (t old : List ℕ) → has_room t old ≡ false → (file_bytes < length t) ⊎ (length old < length t)
no_room t old e =
    split (leb (length t) file_bytes)
    (λ p. inr (leb-false (length t) (length old) (rw p at e)))
    (λ p. inl (leb-false (length t) file_bytes p))

module _ (m : Mesh) (old : List ℕ) where
  abbrev written : Out
  written = write_of m old

  -- the three ways out
  pub ways : (P : Out → Type 0) → (writable_of m ≡ false → P (out (values 18 0) old)) → (writable_of m ≡ true → has_room (mesh_text m) old ≡ false → P (out (values 19 0) old))
      → (writable_of m ≡ true → has_room (mesh_text m) old ≡ true → P (out (values 0 (length (mesh_text m))) (mesh_text m ++ drop (length (mesh_text m)) old)))
      → P written
  unfolding write_of
  ways P unwritable narrow wrote =
      either P (writable_of m) (λ w. either P (has_room (mesh_text m) old) (wrote w) (narrow w)) unwritable

  -- "18 Unwritable .. ; then 19": 18 comes first, and exactly where the test says so
  pub write_number : (written.answer.number ≡ 18) ↔ (writable_of m ≡ false)
  write_number =
      ways (λ o. (o.answer.number ≡ 18) ↔ (writable_of m ≡ false)) (λ w. (λ _. w, λ _. refl)) (λ w r. (λ e. absurd (omega arith), λ f. differ (writable_of m) w f))
      (λ w r. (λ e. absurd (omega arith), λ f. differ (writable_of m) w f))

  -- "19 TextRoom exactly when the text is longer than the room or the reader's file size"
  pub write_room : writable_of m ≡ true → (written.answer.number ≡ 19) ↔ ((file_bytes < length (mesh_text m)) ⊎ (length old < length (mesh_text m)))
  write_room w =
      ways (λ o. (o.answer.number ≡ 19) ↔ ((file_bytes < length (mesh_text m)) ⊎ (length old < length (mesh_text m)))) (λ f. differ (writable_of m) w f)
      (λ _ r. (λ _. no_room (mesh_text m) old r, λ _. refl))
      (λ _ r.
      let n = (room_is (mesh_text m) old).0 r in
      (λ e. absurd (omega arith), λ h. absurd (either_of h (λ b. omega (arith, n.0)) (λ b. omega (arith, n.1)))))

  -- "A refusal leaves the lent text untouched", and its length is 0
  pub write_refused : (written.answer.number ≡ 0 → ⊥) → (written.answer.bytes ≡ 0) × (written.text ≡ old)
  write_refused =
      ways (λ o. (o.answer.number ≡ 0 → ⊥) → (o.answer.bytes ≡ 0) × (o.text ≡ old)) (λ _ _. (refl, refl)) (λ _ _ _. (refl, refl)) (λ _ _ n. absurd (n refl))

  -- an accepted text is the one that belongs to the tables, and has room
  pub write_accepted : written.answer.number ≡ 0
      → (writable_of m ≡ true) × (written.answer.bytes ≡ length (mesh_text m)) × (length (mesh_text m) ≤ file_bytes) × (length (mesh_text m) ≤ length old)
  write_accepted =
      ways (λ o. o.answer.number ≡ 0 → (writable_of m ≡ true) × (o.answer.bytes ≡ length (mesh_text m)) × (length (mesh_text m) ≤ file_bytes) × (length (mesh_text m) ≤ length old))
      (λ _ e. absurd (omega arith)) (λ _ _ e. absurd (omega arith))
      (λ w r e. let n = (room_is (mesh_text m) old).0 r in (w, refl, n.0, n.1))

  -- the text stands first; the bytes behind it are as they were
  pub write_behind : written.answer.number ≡ 0
      → (take written.answer.bytes written.text ≡ mesh_text m) × (drop written.answer.bytes written.text ≡ drop written.answer.bytes old)
      × (length written.text ≡ length old)
  write_behind =
      ways (λ o. o.answer.number ≡ 0 → (take o.answer.bytes o.text ≡ mesh_text m) × (drop o.answer.bytes o.text ≡ drop o.answer.bytes old) × (length o.text ≡ length old))
      (λ _ e. absurd (omega arith)) (λ _ _ e. absurd (omega arith))
      (λ w r e.
      let t = mesh_text m in
      let n = (room_is t old).0 r in
      (take-append_seam t (drop (length t) old), drop-append_seam t (drop (length t) old), omega (arith, length-append t (drop (length t) old), length-drop (length t) old, n.1)))

  -- "18 Unwritable for input that no text of the layout could give, its length apart"
  pub write_unwritable : Counted m → (written.answer.number ≡ 18) ↔ (Given m → ⊥)
  write_unwritable c =
      let g = written_exactly m c in
      let n = write_number in
      (λ e h. differ (writable_of m) (g.1 h) (n.0 e), λ h. n.1 (split (writable_of m) (λ e. absurd (h (g.0 e))) (λ e. e)))

  -- "Reading it, with as much room, gives back the same rows, records and dimension."
  pub write_back : Counted m → written.answer.number ≡ 0 → (lent : Lent) → RoomFor m lent
      → (new : Mesh) × (read_of (take written.answer.bytes written.text) lent ≡ accepted_as new) × SameMesh m new
  write_back c e lent r =
      let a = write_accepted e in
      let w = (writable_is m c).0 a.0 in
      let h = has_room_lem m lent w a.2 r in
      (over m (filled (items_of m) lent), rw (write_behind e).0 (read_there m w a.2 lent h), same_there m w a.2 lent h)

  -- and read into the very tables that it was written from, it changes nothing
  pub write_again : Counted m → written.answer.number ≡ 0 → read_of (take written.answer.bytes written.text) m.held ≡ accepted_as m
  write_again c e = let a = write_accepted e in rw (write_behind e).0 (mesh_back m ((writable_is m c).0 a.0) a.2)

-- "Exactly one text belongs to given tables": the same mesh in other tables has it too, and no other mesh has
module _ (m n : Mesh) (c : Counted m) (d : Counted n) (v : writable_of m ≡ true) (w : writable_of n ≡ true) (l : length (mesh_text m) ≤ file_bytes) where
  pub write_once : (mesh_text m ≡ mesh_text n) ↔ SameMesh m n
  write_once = (text_once m n ((writable_is m c).0 v) ((writable_is n d).0 w) l, λ s. text_alike m n s c d v w)

  -- other tables, another text
  pub write_differs : (SameMesh m n → ⊥) → mesh_text m ≡ mesh_text n → ⊥
  write_differs other e = other (write_once.0 e)
