-- The records read back from the table that they were laid into are the records; more than 64 are never written. Assumes nothing.
use Prim.Native.Nat.{ℕ, ◌+◌, ◌*◌, ◌/◌, ◌≤◌, ◌<◌}
use native.Mathlib.Omega.{arith}
use native.Mathlib.Numerals.{add-one}
use lib.IntN.{ℤ}
use mathlib.Core.Path.{◌≡◌, refl, sym, ◌∙◌, ap}
use mathlib.Core.List.{List, [], ◌∷◌, ◌++◌}
use mathlib.Core.Bool.{true}
use lib.ListN.{length, get_or, take}
use lib.Seq.{take-suc}
use borrow.Rule.Slice.PartMut.{put_mid}
use Rattle.std.proofs.lemmas.Slice.{take-put_mid}
use Rattle.facts.proofs.Decides.{and_split}
use Rattle.mesh.specs.declared.Zone.{Zone}
use Rattle.layout.specs.Says.{Mesh}
use Rattle.texts.specs.Judged.{front_by, record_fits, records_by, writable_of}
use Rattle.texts.specs.Write.{zones_in, records_in, values, out, mesh_of, write_of}
use Rattle.texts.proofs.Write.{ways}
use Rattle.writer.specs.Writer.{lent, flat_mesh}
use Rattle.writer.specs.inner.Flat.{words_of, flat_of}
use Rattle.writer.proofs.Judging.{fits_few}

-- ---- the words of records
flat_length : (zs : List Zone) → length (flat_of zs) ≡ length zs * 6
flat_length [] = refl
flat_length (z ∷ zs) = let h = flat_length zs in omega (arith, h)

flat_append : (xs ys : List Zone) → flat_of (xs ++ ys) ≡ flat_of xs ++ flat_of ys
flat_append [] ys = refl
flat_append (x ∷ xs) ys = ap (λ l. words_of x ++ l) (flat_append xs ys)

zones_back : (zs : List Zone) → zones_in (length zs) (flat_of zs) ≡ zs
zones_back [] = refl
zones_back (z ∷ zs) = ap (λ l. z ∷ l) (zones_back zs)

records_flat : (zs : List Zone) → records_in (flat_of zs) ≡ zs
records_flat zs = let h : length (flat_of zs) / 6 ≡ length zs = omega (arith, flat_length zs) in ap (λ n. zones_in n (flat_of zs)) h ∙ zones_back zs

-- one record more in a table
pub laid_more : (zs : List Zone) (flat : List ℕ) (i k : ℕ) (d : Zone) {ys : List ℕ} → i < length zs → 6 * length zs ≤ length flat → take (6 * i) flat ≡ flat_of (take i zs)
    → ys ≡ words_of (get_or zs i d) → take (6 * (i + 1)) (put_mid (6 * i) k flat ys) ≡ flat_of (take (i + 1) zs)
laid_more zs flat i k d {ys} h room e y =
    let long : length ys ≡ 6 = ap length y in
    let front : take (6 * (i + 1)) (put_mid (6 * i) k flat ys) ≡ take (6 * i) flat ++ ys = take-put_mid (6 * i) k flat ys (6 * (i + 1)) (omega arith) (omega arith) in
    let last : flat_of (take (i + 1) zs) ≡ flat_of (take i zs) ++ words_of (get_or zs i d) =
    ap (λ (n : ℕ). flat_of (take n zs)) (add-one i) ∙ ap flat_of (take-suc zs i d h) ∙ flat_append (take i zs) (get_or zs i d ∷ []) in
    front ∙ (λ j. e j ++ y j) ∙ sym last

-- a table that begins with the words of a list has the list
pub laid_back : (zs : List Zone) (flat : List ℕ) → take (6 * length zs) flat ≡ flat_of zs → records_in (take (6 * length zs) flat) ≡ zs
laid_back zs flat e = ap records_in e ∙ records_flat zs

-- ---- more than 64 records
records_few : (m : Mesh) (zs before : List Zone) → length before ≤ 64 → records_by m before zs ≡ true → length before + length zs ≤ 64
unfolding records_by
records_few m [] before few h = omega arith
records_few m (z ∷ zs) before few h =
    let s = and_split (record_fits m before z) _ h in
    let f = fits_few m before z s.0 in
    let r = records_few m zs (z ∷ before) f s.1 in
    omega (arith, r)

writable_few : (m : Mesh) → writable_of m ≡ true → length m.held.zones ≤ 64
unfolding writable_of
writable_few m h =
    let r = records_few m m.held.zones [] (omega arith) (and_split (records_by m [] m.held.zones) _ (and_split (front_by m) _ h).1).0 in
    omega (arith, r)

pub many_18 : (m : Mesh) (old : List ℕ) → 64 < length m.held.zones → out (values 18 0) old ≡ write_of m old
many_18 m old h =
    ways m old (λ o. out (values 18 0) old ≡ o) (λ _. refl) (λ w _. let f = writable_few m w in absurd (omega (arith, f))) (λ w _. let f = writable_few m w in absurd (omega (arith, f)))

-- a list of records is written as a table that begins with its words; one of more than 64 is 18
module _ (d nodes faces cells : ℕ) (ms es : List ℤ) (fs cs : List ℕ) (zs : List Zone) (old : List ℕ) where
  abbrev listed : Mesh
  listed = mesh_of d nodes faces cells (lent ms es fs cs zs)

  pub some_is :
      ((flat : List ℕ) → take (6 * length zs) flat ≡ flat_of zs → write_of (flat_mesh d nodes faces cells ms es fs cs (take (6 * length zs) flat)) old ≡ write_of listed old)
      × (64 < length zs → out (values 18 0) old ≡ write_of listed old)
  some_is =
      (λ flat e. ap (λ (l : List Zone). write_of (mesh_of d nodes faces cells (lent ms es fs cs l)) old) (laid_back zs flat e), many_18 listed old)
