-- Rows: a whole row has all its words, and what is read from it word by word. Over the number of words and of node places. Assumes nothing.
use Prim.Native.Nat.{ℕ, zero, suc, ◌+◌, ◌-◌, ◌*◌, ◌≤◌, ◌<◌}
use native.Mathlib.Nat.{le-div_iff_mul-le}
use native.Mathlib.Omega.{arith}
use mathlib.Core.Path.{◌≡◌, refl, sym, ap, ◌∙◌}
use mathlib.Core.List.{List, [], ◌∷◌}
use borrow.Author.Tests.{lt-ltb, ltb-true}
use lib.Dec.{ltb}
use lib.ListN.{length, take, drop, get_or, length-drop, length-replicate}
use lib.Seq.{drop-cons, length-take-le}
use Rattle.facts.proofs.Branch.{either}
use Rattle.mesh.specs.declared.Face.{Face}
use Rattle.mesh.specs.Rows.{face_words, cell_words, rows_in, row_at, face_of, face_at, cell_of, cell_at}

-- a part of one row's length is the row
part_is : (w : ℕ) (rows : List ℕ) (i : ℕ) → take (i * w + w - i * w) (drop (i * w) rows) ≡ row_at w rows i
part_is w rows i = let e : i * w + w - i * w ≡ w = omega arith in rw e

row_end : (w : ℕ) (rows : List ℕ) (i : ℕ) → i < rows_in (suc w) rows → i * suc w + suc w ≤ length rows
row_end w rows i h =
    let e : suc i * suc w ≤ length rows = (le-div_iff_mul-le {k = suc w} {x = suc i} {y = length rows} (omega arith)).0 h in
    omega arith

pub row_length : (w : ℕ) (rows : List ℕ) (i : ℕ) → i < rows_in (suc w) rows → length (row_at (suc w) rows i) ≡ suc w
row_length w rows i h =
    length-take-le (suc w) (drop (i * suc w) rows) (rw (length-drop (i * suc w) rows) (omega (arith, row_end w rows i h)))

-- n words from i on, one by one
abbrev words : List ℕ → ℕ → ℕ → List ℕ
words l i zero = []
words l i (suc n) = get_or l i 0 ∷ words l (suc i) n

words_are : (l : List ℕ) (n i : ℕ) → i + n ≤ length l → words l i n ≡ take n (drop i l)
words_are l zero i h = refl
words_are l (suc n) i h = rw (drop-cons l i 0 (omega arith)) (ap (λ (t : List ℕ). get_or l i 0 ∷ t) (words_are l n (suc i) (omega arith)))

module _ (n : ℕ) (rows : List ℕ) (f : ℕ) where
  abbrev read : List ℕ → Face
  read row =
      record {
        count = get_or row 0 0;
        nodes = words row 1 n;
        right = get_or row (n + 1) 0;
        left = get_or row (n + 2) 0;
        ztype = get_or row (n + 3) 0;
      }

  read_is : f < rows_in (face_words n) rows → read (row_at (face_words n) rows f) ≡ face_of n (row_at (face_words n) rows f)
  read_is h =
      let r = row_at (face_words n) rows f in
      let e : n + 4 ≡ suc (n + 3) = omega arith in
      let k : length r ≡ n + 4 = rw e (row_length (n + 3) rows f (rw e at h)) in
      ap (λ (t : List ℕ). record { count = get_or r 0 0; nodes = t; right = get_or r (n + 1) 0; left = get_or r (n + 2) 0; ztype = get_or r (n + 3) 0 }) (words_are r n 1 (omega arith))

  -- a face read from the part that is its row
  pub face_there : f < rows_in (face_words n) rows
      → read (take (f * face_words n + face_words n - f * face_words n) (drop (f * face_words n) rows)) ≡ face_at n rows f
  unfolding face_at
  face_there h = ap read (part_is (face_words n) rows f) ∙ read_is h ∙ sym (rw (lt-ltb _ _ h, face_at))

module _ (rows : List ℕ) (c : ℕ) where
  pub cell_there : c < rows_in cell_words rows → cell_of (take (c * cell_words + cell_words - c * cell_words) (drop (c * cell_words) rows)) ≡ cell_at rows c
  unfolding cell_at
  cell_there h = ap cell_of (part_is cell_words rows c) ∙ sym (rw (lt-ltb _ _ h, cell_at))

-- a face has all its node places
pub face_at_nodes : (n : ℕ) (rows : List ℕ) (f : ℕ) → length (face_at n rows f).nodes ≡ n
unfolding face_at
face_at_nodes n rows f =
    either (λ (x : Face). length x.nodes ≡ n) (ltb f (rows_in (face_words n) rows))
    (λ t.
    let e : n + 4 ≡ suc (n + 3) = omega arith in
    let h : f < rows_in (face_words n) rows = ltb-true _ _ t in
    let k : length (row_at (face_words n) rows f) ≡ n + 4 = rw e (row_length (n + 3) rows f (rw e at h)) in
    length-take-le n (drop 1 (row_at (face_words n) rows f)) (rw (length-drop 1 (row_at (face_words n) rows f)) (omega arith)))
    (λ t. length-replicate n 0)
