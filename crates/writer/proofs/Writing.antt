-- Rows laid one behind the other: what is left to lay. Assumes nothing.
use Prim.Native.Nat.{ℕ, suc, ◌+◌, ◌-◌, ◌≤◌, ◌<◌}
use native.Mathlib.Omega.{arith}
use mathlib.Core.Path.{◌≡◌, refl, sym, ◌∙◌, ap, subst}
use mathlib.Core.List.{List, [], ◌∷◌, ◌++◌, map, append_assoc, append-nil}
use mathlib.Core.Bool.{Bool, true, false}
use native.Mathlib.Numerals.{add-one}
use lib.ListN.{length, take, drop, get_or, length-drop, drop_of_length-le}
use lib.Seq.{drop-cons, length-take-le}
use Rattle.mesh.specs.Rows.{places, face_words}
use Rattle.texts.specs.Writes.{Each}
use Rattle.figures.specs.Figures.{figures}
use Rattle.putting.specs.Putting.{Laid, words_bytes}
use Rattle.putting.proofs.Laying.{Left, left_more, laid_more}
use Rattle.texts.specs.Pieces.{Piece, Blank, space, line, opens, written, gap, blank_byte, bytes_of}
use Rattle.layout.specs.Items.{Header, given}
use Rattle.texts.specs.Texts.{hex_text, id_text, row, rows, facet_numbers, head_text}
use Rattle.texts.specs.Tabled.{facet_of}
use Rattle.writer.specs.inner.Rows.{head_bytes, row_bytes, table_bytes, cell_words_of, face_words_of, SomeCorners}

-- ---- pieces as bytes: what comes behind stands apart
pub row_bytes_lem : (b : Blank) (ws : List (List ℕ)) (ps : List Piece) → bytes_of (row b ws ps) ≡ bytes_of (row b ws []) ++ bytes_of ps
row_bytes_lem b [] ps = refl
row_bytes_lem b (w ∷ ws) ps = ap (λ r. blank_byte b ∷ r) (ap (λ r. w ++ r) (row_bytes_lem space ws ps) ∙ sym (append_assoc w (bytes_of (row space ws [])) (bytes_of ps)))

pub rows_bytes : {A : Type 0} (f : A → List (List ℕ)) (xs : List A) (ps : List Piece) → bytes_of (rows f xs ps) ≡ bytes_of (rows f xs []) ++ bytes_of ps
rows_bytes f [] ps = refl
rows_bytes f (x ∷ xs) ps =
    row_bytes_lem line (f x) (rows f xs ps) ∙ ap (λ r. bytes_of (row line (f x) []) ++ r) (rows_bytes f xs ps)
    ∙ sym (append_assoc (bytes_of (row line (f x) [])) (bytes_of (rows f xs [])) (bytes_of ps))
    ∙ ap (λ r. r ++ bytes_of ps) (sym (row_bytes_lem line (f x) (rows f xs [])))

pub rows_map : {A B : Type 0} (f : B → List (List ℕ)) (h : A → B) (xs : List A) (ps : List Piece) → rows f (map h xs) ps ≡ rows (λ x. f (h x)) xs ps
rows_map f h [] ps = refl
rows_map f h (x ∷ xs) ps = ap (row line (f (h x))) (rows_map f h xs ps)

-- ---- a loop over the rows of a table: those from i on are left
table_next : (g : List ℕ → List (List ℕ)) (r : List ℕ) (rs : List (List ℕ)) → table_bytes g (r ∷ rs) ≡ row_bytes g r ++ table_bytes g rs
unfolding table_bytes row_bytes
table_next g r rs = row_bytes_lem line (g r) (rows g rs [])

pub table_more : (g : List ℕ → List (List ℕ)) {old : List ℕ} {at : ℕ} {whole cur : List ℕ} {c : ℕ} (rs : List (List ℕ)) (i : ℕ) (d : List ℕ) {mid : List ℕ} {m : ℕ}
    → Left old at whole cur c (table_bytes g (drop i rs)) → i < length rs → Laid cur c (row_bytes g (get_or rs i d)) mid m → Left old at whole mid m (table_bytes g (drop (i + 1) rs))
table_more g rs i d l h w =
    left_more (table_bytes g (drop (i + 1) rs)) l
    (ap (table_bytes g) (drop-cons rs i d h) ∙ table_next g (get_or rs i d) (drop (suc i) rs) ∙ ap (λ (k : ℕ). row_bytes g (get_or rs i d) ++ table_bytes g (drop k rs)) (sym (add-one i))) w

pub table_none : (g : List ℕ → List (List ℕ)) (rs : List (List ℕ)) (i : ℕ) → length rs ≤ i → table_bytes g (drop i rs) ≡ []
unfolding table_bytes
table_none g rs i h = rw (drop_of_length-le rs {i = i} h)

-- ---- cells: one word of each row
cell_row : (r : List ℕ) → row_bytes cell_words_of r ≡ 10 ∷ figures 16 (get_or r 0 0)
unfolding row_bytes
cell_row r = rw append-nil

pub cell_laid : {old : List ℕ} {at : ℕ} (r : List ℕ) {new : List ℕ} {m : ℕ} → Laid old at (10 ∷ figures 16 (get_or r 0 0)) new m → Laid old at (row_bytes cell_words_of r) new m
cell_laid {old} {at} r {new} {m} w = subst (λ (y : List ℕ). Laid old at y new m) (sym (cell_row r)) w

-- ---- faces: the corners, and the two cells
-- hexadecimal words, one behind the other
row_words : (b : Blank) (ns : List ℕ) → bytes_of (row b (map hex_text ns) []) ≡ words_bytes (blank_byte b) ns
unfolding words_bytes
row_words b [] = refl
row_words b (n ∷ ns) = ap (λ r. blank_byte b ∷ (figures 16 n ++ r)) (row_words space ns)

words_append : (lead : ℕ) (a b : List ℕ) → 0 < length a → words_bytes lead (a ++ b) ≡ words_bytes lead a ++ words_bytes 32 b
unfolding words_bytes
words_append lead [] b h = absurd (omega arith)
words_append lead (x ∷ []) b h = ap (λ r. lead ∷ (r ++ words_bytes 32 b)) (sym (append-nil (figures 16 x)))
words_append lead (x ∷ y ∷ a) b h =
    ap (λ r. lead ∷ r) (ap (λ r. figures 16 x ++ r) (words_append 32 (y ∷ a) b (omega arith)) ∙ sym (append_assoc (figures 16 x) (words_bytes 32 (y ∷ a)) (words_bytes 32 b)))

-- a row
module _ (l : List ℕ) (long : length l ≡ face_words places) (some : 1 ≤ get_or l 0 0) (high : get_or l 0 0 ≤ places) where
  corners_count : length (take (get_or l 0 0) (drop 1 l)) ≡ get_or l 0 0
  corners_count = length-take-le (get_or l 0 0) (drop 1 l) (omega (arith, length-drop 1 l))

  cells_in : get_or l (places + 1) 0 ∷ get_or l (places + 2) 0 ∷ [] ≡ take 2 (drop (places + 1) l)
  cells_in = rw (drop-cons l (places + 1) 0 (omega arith), drop-cons l (places + 2) 0 (omega arith))

  numbers_in : facet_numbers (facet_of l) ≡ take (get_or l 0 0) (drop 1 l) ++ take 2 (drop (places + 1) l)
  numbers_in = ap (λ x. take (get_or l 0 0) (drop 1 l) ++ x) cells_in

  mixed_parts : row_bytes (face_words_of true) l ≡ words_bytes 10 (take (suc (get_or l 0 0)) l) ++ words_bytes 32 (take 2 (drop (places + 1) l))
  unfolding row_bytes
  mixed_parts =
      let f = facet_of l in
      let first : take (suc (get_or l 0 0)) l ≡ get_or l 0 0 ∷ take (get_or l 0 0) (drop 1 l) = ap (take (suc (get_or l 0 0))) (drop-cons l 0 0 (omega arith)) in
      let whole : length f.corners ∷ facet_numbers f ≡ take (suc (get_or l 0 0)) l ++ take 2 (drop (places + 1) l) =
      (λ i. corners_count i ∷ numbers_in i) ∙ ap (λ x. x ++ take 2 (drop (places + 1) l)) (sym first) in
      row_words line (length f.corners ∷ facet_numbers f) ∙ ap (words_bytes 10) whole ∙ words_append 10 (take (suc (get_or l 0 0)) l) (take 2 (drop (places + 1) l)) (omega (arith, ap length first))

  plain_parts : row_bytes (face_words_of false) l ≡ words_bytes 10 (take (get_or l 0 0) (drop 1 l)) ++ words_bytes 32 (take 2 (drop (places + 1) l))
  unfolding row_bytes
  plain_parts =
      row_words line (facet_numbers (facet_of l)) ∙ ap (words_bytes 10) numbers_in
      ∙ words_append 10 (take (get_or l 0 0) (drop 1 l)) (take 2 (drop (places + 1) l)) (omega (arith, corners_count))

  module _ {old : List ℕ} {at : ℕ} {mid : List ℕ} {m : ℕ} {half : List ℕ} {h : ℕ} {new : List ℕ} {r : ℕ} (b : Bool) (from : ℕ) (v : Laid old at (words_bytes 10 (take (1 + get_or l 0 0 - from) (drop from l))) mid m)
      (right : Laid mid m (32 ∷ figures 16 (get_or l (places + 1) 0)) half h) (left : Laid half h (32 ∷ figures 16 (get_or l (places + 2) 0)) new r) where
    w : Laid mid m (words_bytes 32 (take 2 (drop (places + 1) l))) new r
    unfolding words_bytes
    w = rw (← cells_in, append-nil) (laid_more right left)

    pub facet_mixed : b ≡ true → from ≡ 0 → Laid old at (row_bytes (face_words_of b) l) new r
    facet_mixed q f =
        let z : 1 + get_or l 0 0 - from ≡ suc (get_or l 0 0) = omega arith in
        rw (q, mixed_parts) (laid_more (rw (z, f) at v) w)

    pub facet_plain : b ≡ false → from ≡ 1 → Laid old at (row_bytes (face_words_of b) l) new r
    facet_plain q f =
        let z : 1 + get_or l 0 0 - from ≡ get_or l 0 0 = omega arith in
        rw (q, plain_parts) (laid_more (rw (z, f) at v) w)

-- each row from i on has 1 to 4 corners
pub corners_rest : (rs : List (List ℕ)) (i : ℕ) → i < length rs → Each SomeCorners (drop i rs) → Each SomeCorners (drop (i + 1) rs)
corners_rest rs i h e = subst (λ (k : ℕ). Each SomeCorners (drop k rs)) (sym (add-one i)) (subst (Each SomeCorners) (drop-cons rs i [] h) e).1

-- ---- the pieces of the text, as they are put
pub head_bytes_lem : (id : ℕ) (h : Header) (v : ℕ) (ps : List Piece) → h.fifth ≡ given v
    → bytes_of (opens ∷ written (id_text id) ∷ gap ∷ head_text h ps) ≡ head_bytes id h.zone h.first h.last h.type v ++ bytes_of ps
unfolding head_bytes words_bytes
head_bytes_lem id h v ps e = rw e (simp append_assoc)
