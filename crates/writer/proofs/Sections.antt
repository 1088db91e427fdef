-- Sections, put piece by piece; they are the text of their items. Assumes nothing.
use Prim.Native.Nat.{ℕ, zero, suc, ◌+◌, ◌-◌, ◌*◌, ◌/◌, ◌≤◌, ◌<◌}
use native.Mathlib.Omega.{arith}
use mathlib.Core.Path.{◌≡◌, refl, sym, ◌∙◌, ap, subst}
use mathlib.Core.List.{List, [], ◌∷◌, ◌++◌, map, append_assoc}
use mathlib.Core.Bool.{true, false}
use borrow.Author.Tests.{ne_eqb}
use lib.Dec.{eqb}
use lib.IntN.{ℤ, pos}
use lib.ListN.{length, take, drop, get_or, drop_of_length-le}
use lib.Seq.{drop-cons, drop-drop}
use Rattle.mesh.specs.declared.Zone.{Zone}
use Rattle.texts.specs.Writes.{Each}
use Rattle.texts.specs.Tabled.{rows_of, facet_of, element_of, point_of, points_of, head_of, section_for}
use Rattle.figures.specs.Signed.{coordinate_text}
use Rattle.texts.specs.Pieces.{Blank, space, line, Piece, shuts, feed, blank_byte, bytes_of}
use Rattle.texts.proofs.ByKind.{kind_is}
use Rattle.layout.specs.Items.{Kind, node, cell, face, id_of, given, elements, facets}
use Rattle.layout.specs.Rows.{Lent}
use Rattle.texts.specs.Texts.{row, rows, enclosed, point_words, element_words, facet_words, mixed_words, body_text, item_text}
use Rattle.putting.specs.Putting.{Laid}
use Rattle.putting.proofs.Laying.{Left, left_more}
use Rattle.writer.specs.inner.Rows.{table_bytes, cell_words_of, face_words_of, pairs_bytes, nodes_bytes}
use Rattle.writer.proofs.Writing.{row_bytes_lem, rows_bytes, rows_map, head_bytes_lem}
use Rattle.std.specs.Simd.{first_chunks}
use native.Mathlib.Numerals.{add-one}
use Rattle.std.proofs.lemmas.Nat.{le-div}
use native.Mathlib.Nat.{add-mul, mul_comm}
use Rattle.texts.specs.Write.{zone_in, zones_in}
use Rattle.writer.specs.inner.Sections.{rows_in, PartIn, part_rows, head_for, bodied, node_section, cell_section, face_section, kind_bytes, section_bytes, parts_bytes}

-- ---- the rows of a record, cut out of all those of the table
rows_chunks : {A : Type 0} (w n : ℕ) (l : List A) → first_chunks w n l ≡ rows_of w n l
unfolding rows_of
rows_chunks w zero l = refl
rows_chunks w (suc n) l = ap (λ rs. take w l ∷ rs) (rows_chunks w n (drop w l))

pub rows_length : {A : Type 0} (w n : ℕ) (l : List A) → length (rows_of w n l) ≡ n
unfolding rows_of
rows_length w zero l = refl
rows_length w (suc n) l = ap suc (rows_length w n (drop w l))

chunks_drop : {A : Type 0} (w k n : ℕ) (l : List A) → drop k (first_chunks w (k + n) l) ≡ first_chunks w n (drop (w * k) l)
chunks_drop w zero n l = let y : 0 + n ≡ n = omega arith in let z : w * 0 ≡ 0 = omega arith in rw (y, z)
chunks_drop w (suc k) n l =
    let y : suc k + n ≡ suc (k + n) = omega arith in
    let z : w + w * k ≡ w * suc k = omega arith in
    rw y (chunks_drop w k n (drop w l) ∙ ap (first_chunks w n) (drop-drop (w * k) w l ∙ ap (λ (j : ℕ). drop j l) z))

chunks_take : {A : Type 0} (w n m : ℕ) (l : List A) → take n (first_chunks w (n + m) l) ≡ first_chunks w n l
chunks_take w zero m l = refl
chunks_take w (suc n) m l = let y : suc n + m ≡ suc (n + m) = omega arith in rw y (ap (λ rs. take w l ∷ rs) (chunks_take w n m (drop w l)))

module _ (w : ℕ) (z : Zone) (some : 0 < w) where
  -- the table has as many rows
  pub part_room : {size : ℕ} → PartIn w z size → z.last ≤ size / w
  part_room {size} p =
      let e : z.last ≡ z.first - 1 + rows_in z.first z.last = omega (arith, p.0, p.1) in
      le-div z.last size w some (rw (e, add-mul, mul_comm (z.first - 1) w) p.2)

  pub part_is : {A : Type 0} (l : List A) → PartIn w z (length l)
      → take (z.last - (z.first - 1)) (drop (z.first - 1) (first_chunks w (length l / w) l)) ≡ part_rows w z l
  part_is l p =
      let k = z.first - 1 in
      let n = rows_in z.first z.last in
      let m = length l / w - z.last in
      let a : length l / w ≡ k + (n + m) = omega (arith, part_room p, p.0, p.1) in
      let b : z.last - k ≡ n = omega (arith, p.0, p.1) in
      rw (a, b) (ap (take n) (chunks_drop w k (n + m) l) ∙ chunks_take w n m (drop (w * k) l) ∙ rows_chunks w n (drop (w * k) l))

-- ---- they are the text of their items
point_bytes : (b : Blank) (d : ℕ) (ms es : List ℤ) → bytes_of (row b (point_words (point_of d ms es)) []) ≡ pairs_bytes (blank_byte b) d ms es
unfolding pairs_bytes
point_bytes b zero ms es = refl
point_bytes b (suc d) ms es = ap (λ r. blank_byte b ∷ (coordinate_text (get_or ms 0 (pos 0)) (get_or es 0 (pos 0)) ++ r)) (point_bytes space d (drop 1 ms) (drop 1 es))

nodes_bytes_lem : (d : ℕ) (ms es : List (List ℤ)) → bytes_of (rows point_words (points_of d ms es) []) ≡ nodes_bytes d ms es
unfolding nodes_bytes
nodes_bytes_lem d [] es = refl
nodes_bytes_lem d (m ∷ ms) [] = refl
nodes_bytes_lem d (m ∷ ms) (e ∷ es) =
    row_bytes_lem line (point_words (point_of d m e)) (rows point_words (points_of d ms es) []) ∙ (λ i. point_bytes line d m e i ++ nodes_bytes_lem d ms es i)

seam : (a b c : List ℕ) → a ++ (40 ∷ (b ++ (41 ∷ 41 ∷ 10 ∷ c))) ≡ (a ++ bodied b) ++ c
seam a b c = simp append_assoc

-- a body in parentheses, and what follows the section
body_bytes : {A : Type 0} (f : A → List (List ℕ)) (xs : List A) (ps : List Piece) → bytes_of (enclosed f xs (shuts ∷ feed ∷ ps)) ≡ 40 ∷ (bytes_of (rows f xs []) ++ (41 ∷ 41 ∷ 10 ∷ bytes_of ps))
body_bytes f xs ps = ap (λ r. 40 ∷ r) (rows_bytes f xs (shuts ∷ shuts ∷ feed ∷ ps))

pub node_section_lem : (d : ℕ) (l : Lent) (z : Zone) (ps : List Piece) → bytes_of (item_text (section_for node d l z) ps) ≡ node_section d z l.mantissas l.exponents ++ bytes_of ps
unfolding node_section
node_section_lem d l z ps =
    let ms = part_rows 3 z l.mantissas in
    let es = part_rows 3 z l.exponents in
    let xs = points_of d ms es in
    head_bytes_lem 10 (head_of node d z) d (enclosed point_words xs (shuts ∷ feed ∷ ps)) refl
    ∙ ap (λ r. head_for 10 z d ++ r) (body_bytes point_words xs ps ∙ ap (λ r. 40 ∷ (r ++ (41 ∷ 41 ∷ 10 ∷ bytes_of ps))) (nodes_bytes_lem d ms es))
    ∙ seam (head_for 10 z d) (nodes_bytes d ms es) (bytes_of ps)

cell_body : (e : ℕ) (rs : List (List ℕ)) (head : List ℕ) (ps : List Piece)
    → head ++ bytes_of (body_text (given e) (elements (map element_of rs)) (shuts ∷ feed ∷ ps))
    ≡ (head ++ elim (eqb e 0) [ true ↦ bodied (table_bytes cell_words_of rs) | false ↦ 41 ∷ 10 ∷ [] ]) ++ bytes_of ps
unfolding table_bytes
cell_body zero rs head ps =
    ap (λ r. head ++ r) (body_bytes element_words (map element_of rs) ps ∙ ap (λ x. 40 ∷ (bytes_of x ++ (41 ∷ 41 ∷ 10 ∷ bytes_of ps))) (rows_map element_words element_of rs []))
    ∙ seam head (table_bytes cell_words_of rs) (bytes_of ps)
cell_body (suc e) rs head ps = rw (ne_eqb (suc e) 0 (λ q. omega arith)) (sym (append_assoc head (41 ∷ 10 ∷ []) (bytes_of ps)))

pub cell_section_lem : (d : ℕ) (l : Lent) (z : Zone) (ps : List Piece) → bytes_of (item_text (section_for cell d l z) ps) ≡ cell_section z l.cells ++ bytes_of ps
unfolding cell_section
cell_section_lem d l z ps =
    head_bytes_lem 12 (head_of cell d z) z.element (body_text (given z.element) (elements (map element_of (part_rows 2 z l.cells))) (shuts ∷ feed ∷ ps)) refl
    ∙ cell_body z.element (part_rows 2 z l.cells) (head_for 12 z z.element) ps

face_body : (e : ℕ) (rs : List (List ℕ)) (head : List ℕ) (ps : List Piece)
    → head ++ bytes_of (body_text (given e) (facets (map facet_of rs)) (shuts ∷ feed ∷ ps)) ≡ (head ++ bodied (table_bytes (face_words_of (eqb e 0)) rs)) ++ bytes_of ps
unfolding table_bytes
face_body zero rs head ps =
    ap (λ r. head ++ r) (body_bytes mixed_words (map facet_of rs) ps ∙ ap (λ x. 40 ∷ (bytes_of x ++ (41 ∷ 41 ∷ 10 ∷ bytes_of ps))) (rows_map mixed_words facet_of rs []))
    ∙ seam head (table_bytes (face_words_of true) rs) (bytes_of ps)
face_body (suc e) rs head ps =
    rw (ne_eqb (suc e) 0 (λ q. omega arith))
    (ap (λ r. head ++ r) (body_bytes facet_words (map facet_of rs) ps ∙ ap (λ x. 40 ∷ (bytes_of x ++ (41 ∷ 41 ∷ 10 ∷ bytes_of ps))) (rows_map facet_words facet_of rs []))
    ∙ seam head (table_bytes (face_words_of false) rs) (bytes_of ps))

pub face_section_lem : (d : ℕ) (l : Lent) (z : Zone) (ps : List Piece) → bytes_of (item_text (section_for face d l z) ps) ≡ face_section z l.faces ++ bytes_of ps
unfolding face_section
face_section_lem d l z ps =
    head_bytes_lem 13 (head_of face d z) z.element (body_text (given z.element) (facets (map facet_of (part_rows 8 z l.faces))) (shuts ∷ feed ∷ ps)) refl
    ∙ face_body z.element (part_rows 8 z l.faces) (head_for 13 z z.element) ps

-- ---- a section of any kind
pub as_kind : (d : ℕ) (l : Lent) (z : Zone) (k : Kind) → z.section ≡ id_of k → kind_bytes d l z k ≡ section_bytes d l z
unfolding section_bytes
as_kind d l z k e = sym (kind_is (kind_bytes d l z) (face_section z l.faces) z.section k e)

-- ---- all sections
pub zones_rows : (n : ℕ) (l : List ℕ) → map zone_in (first_chunks 6 n l) ≡ zones_in n l
zones_rows zero l = refl
zones_rows (suc n) l = ap (λ zs. zone_in (take 6 l) ∷ zs) (zones_rows n (drop 6 l))

pub zones_next : (rs : List (List ℕ)) (i : ℕ) (d : List ℕ) → i < length rs → map zone_in (drop i rs) ≡ zone_in (get_or rs i d) ∷ map zone_in (drop (i + 1) rs)
zones_next rs i d h = ap (map zone_in) (drop-cons rs i d h) ∙ ap (λ (k : ℕ). zone_in (get_or rs i d) ∷ map zone_in (drop k rs)) (sym (add-one i))

pub zones_end : (rs : List (List ℕ)) (i : ℕ) → length rs ≤ i → map zone_in (drop i rs) ≡ []
zones_end rs i h = ap (map zone_in) (drop_of_length-le rs {i = i} h)

-- a fact of each record from the row i on
pub each_rest : (P : Zone → Type 0) (rs : List (List ℕ)) (i : ℕ) → i < length rs → Each P (map zone_in (drop i rs)) → Each P (map zone_in (drop (i + 1) rs))
each_rest P rs i h e = (subst (Each P) (zones_next rs i [] h) e).1

module _ (d : ℕ) (l : Lent) (rs : List (List ℕ)) (i : ℕ) where
  pub parts_more : {old : List ℕ} {at : ℕ} {whole cur : List ℕ} {c : ℕ} (e : List ℕ) {z : Zone} {mid : List ℕ} {m : ℕ} → Left old at whole cur c (parts_bytes d l (map zone_in (drop i rs)))
      → i < length rs → z ≡ zone_in (get_or rs i e) → Laid cur c (section_bytes d l z) mid m → Left old at whole mid m (parts_bytes d l (map zone_in (drop (i + 1) rs)))
  unfolding parts_bytes
  parts_more e g h q w =
      left_more (parts_bytes d l (map zone_in (drop (i + 1) rs))) g
      (ap (parts_bytes d l) (zones_next rs i e h) ∙ ap (λ (y : Zone). section_bytes d l y ++ parts_bytes d l (map zone_in (drop (i + 1) rs))) (sym q)) w

  pub parts_none : length rs ≤ i → parts_bytes d l (map zone_in (drop i rs)) ≡ []
  unfolding parts_bytes
  parts_none h = ap (parts_bytes d l) (zones_end rs i h)
