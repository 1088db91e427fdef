-- What is judged, measured and put is what the definition answers and leaves. Assumes nothing.
use Prim.Native.Nat.{ℕ, ◌+◌, ◌≤◌, ◌<◌, min}
use native.Mathlib.Omega.{arith}
use native.Mathlib.Nat.{min-eq_left, min-eq_right}
use mathlib.Core.Path.{◌≡◌, refl, sym, ◌∙◌, ap}
use mathlib.Core.List.{List, ◌++◌}
use mathlib.Core.Bool.{Bool, true, false, ◌&&◌}
use borrow.Author.Tests.{leb-true, leb-false, lt-leb}
use lib.Dec.{leb}
use lib.ListN.{length, drop}
use Rattle.facts.proofs.Branch.{split, differ}
use Rattle.facts.proofs.Decides.{and_split}
use Rattle.sizes.specs.Sizes.{file_bytes}
use Rattle.layout.specs.Says.{Mesh}
use Rattle.putting.specs.Putting.{most, Laid}
use Rattle.putting.proofs.Laying.{laid_all}
use Rattle.texts.specs.Judged.{writable_of}
use Rattle.texts.specs.Writable.{Writable}
use Rattle.texts.specs.Write.{records_in, mesh_text, has_room, values, out, write_of}
use Rattle.texts.proofs.Written.{writable_is}
use Rattle.texts.proofs.Write.{ways}
use Rattle.writer.specs.inner.Sections.{mesh_bytes, AllPuttable}
use Rattle.writer.proofs.MeshText.{rows_only, totals_of, mesh_bytes_lem, mesh_puttable}

module _ (m : Mesh) (words : List ℕ) (counted : m.zones ≡ length m.held.zones) (listed : m.held.zones ≡ records_in words) {b : Bool} (e : b ≡ writable_of m) where
  pub answers_18 : (old : List ℕ) → b ≡ false → out (values 18 0) old ≡ write_of m old
  answers_18 old h = let n = sym e ∙ h in ways m old (λ o. out (values 18 0) old ≡ o) (λ _. refl) (λ w r. differ (writable_of m) w n) (λ w r. differ (writable_of m) w n)

  module _ (yes : b ≡ true) where
    written : Writable m
    written = (writable_is m counted).0 (sym e ∙ yes)

    pub all_there : (m.dimension ≤ 3) × AllPuttable (rows_only m.held) m.held.zones
    all_there = mesh_puttable m written

    abbrev bytes : List ℕ
    bytes = mesh_bytes (totals_of m) (rows_only m.held) words

    text_is : mesh_text m ≡ bytes
    text_is = mesh_bytes_lem m words listed written.again

    -- the measure of a text is its length, up to the largest number; and no room is that long
    module _ (old : List ℕ) {x y : List ℕ} {size : ℕ} (w : Laid x 0 bytes y size) where
      measured : size ≡ min (length bytes) most
      measured = let z : 0 + length bytes ≡ length bytes = omega arith in w.place ∙ ap (λ n. min n most) z

      room_is : (leb size file_bytes && leb size (length old)) ≡ has_room bytes old
      room_is = split (leb (length bytes) most) (λ h. short (leb-true (length bytes) most h)) (λ h. long (leb-false (length bytes) most h))
        where
          short : length bytes ≤ most → (leb size file_bytes && leb size (length old)) ≡ has_room bytes old
          short h = ap (λ n. leb n file_bytes && leb n (length old)) (measured ∙ min-eq_left h)

          long : most < length bytes → (leb size file_bytes && leb size (length old)) ≡ has_room bytes old
          long h =
              let z : size ≡ most = measured ∙ min-eq_right (omega arith) in
              rw (lt-leb size file_bytes (omega arith), lt-leb (length bytes) file_bytes (omega arith))

      module _ {c : Bool} (r : c ≡ (leb size file_bytes && leb size (length old))) where
        has_room_lem : c ≡ has_room (mesh_text m) old
        has_room_lem = r ∙ room_is ∙ ap (λ s. has_room s old) (sym text_is)

        pub answers_19 : c ≡ false → out (values 19 0) old ≡ write_of m old
        answers_19 h =
            ways m old (λ o. out (values 19 0) old ≡ o) (λ n. differ (writable_of m) (sym e ∙ yes) n) (λ w n. refl) (λ w f. differ (has_room (mesh_text m) old) f (sym has_room_lem ∙ h))

        pub answers_0 : c ≡ true → {new : List ℕ} {n : ℕ} → Laid old 0 bytes new n → out (values 0 size) new ≡ write_of m old
        answers_0 h {new} p =
            let f = and_split (leb size file_bytes) _ (sym r ∙ h) in
            let s = leb-true size file_bytes f.0 in
            let g = leb-true size (length old) f.1 in
            let k : size ≡ length bytes = exactly s in
            ways m old (λ o. out (values 0 size) new ≡ o) (λ n. differ (writable_of m) (sym e ∙ yes) n) (λ w n. differ (has_room (mesh_text m) old) (sym has_room_lem ∙ h) n)
            (λ w n i. out (values 0 ((k ∙ ap length (sym text_is)) i)) ((laid_all p (omega arith) ∙ ap (λ s. s ++ drop (length s) old) (sym text_is)) i))
          where
            exactly : size ≤ file_bytes → size ≡ length bytes
            exactly s =
                split (leb (length bytes) most) (λ h. measured ∙ min-eq_left (leb-true (length bytes) most h))
                (λ h. let x = leb-false (length bytes) most h in let z : size ≡ most = measured ∙ min-eq_right (omega arith) in absurd (omega arith))
