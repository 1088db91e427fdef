-- The text of items is laid out as these items. Assumes nothing.
use Prim.Native.Nat.{ℕ, suc, ◌+◌, ◌≤◌, ◌<◌}
use native.Mathlib.Omega.{arith}
use mathlib.Core.Path.{◌≡◌, refl, subst}
use mathlib.Core.List.{List, [], ◌∷◌, ◌++◌, map}
use lib.ListN.{length}
use Rattle.tokens.specs.Listed.{Tok, word, tokens_of}
use Rattle.texts.specs.Pieces.{Piece, Blank, space, line, gap, feed, shuts, written, toks_of}
use Rattle.layout.specs.Items.{Kind, id_of, Perhaps, absent, given, Header, Pair, Facet, Body, Item, dim, decl, part, other}
use Rattle.layout.specs.Grammar.{is_left, is_right, Hex, Coordinate, Fifth, present, missing, Heading, heading, Rows, no_rows, a_row, Enclosed, enclosed as in-parentheses, Element, element, Facing, facing, Mixed, mixed, BodyOf, node_body, cell_mixed, cell_same, face_mixed, face_same, Section, two, declares, regular, File, over, section}
use Rattle.texts.specs.Texts.{hex_text, id_text, pair_text, row, rows, enclosed, point_words, element_words, facet_words, mixed_words, body_text, fifth_text, head_text, items_text, text_of}
use Rattle.texts.specs.Writes.{Each, Short, ShortFifth, ShortHeader, CanonicalPair, Point, ElementIs, FacetIs, MixedIs, BodyWrites, points_write, mixed_cells, same_cells, mixed_faces, same_faces, Writes}
use Rattle.sizes.specs.Sizes.{file_bytes}
use Rattle.layout.specs.Keeps.{Room, Fits, Whole}
use Rattle.layout.specs.Says.{LaidText}
use Rattle.tokens.proofs.Text.{text_exactly}
use Rattle.texts.proofs.Pieces.{tokens_of_pieces}
use Rattle.texts.proofs.Parted.{items_parted}
use Rattle.texts.proofs.Words.{hex_is, id_is, pair_is, kind_id}

-- the pieces ps are a thing, and qs come behind it: somewhere
record Then (R : List Tok → List Tok → Type 0) (i : ℕ) (ps qs : List Piece) : Type 0 where
  pub at : ℕ
  pub is : R (toks_of i ps) (toks_of at qs)

-- words one behind the other, each read by R
words_then : {A : Type 0} (R : List Tok → A → List Tok → Type 0) (f : A → List ℕ) (P : A → Type 0)
    → ((x : A) → P x → (o : ℕ) (us : List Tok) → R (word o (f x) ∷ us) x us)
    → (b : Blank) (i : ℕ) (xs : List A) (ps : List Piece) → Each P xs → Then (λ ts us. Rows R (length xs) ts xs us) i (row b (map f xs) ps) ps
words_then R f P w b i [] ps h = record { at = i; is = no_rows }
words_then R f P w b i (x ∷ xs) ps h =
    let t = words_then R f P w space (suc i + length (f x)) xs ps h.1 in
    record { at = t.at; is = a_row (w x h.0 (suc i) _) t.is }

-- rows in parentheses, each read by R
module _ {A : Type 0} (R : List Tok → A → List Tok → Type 0) (f : A → List (List ℕ)) (P : A → Type 0)
    (one : (x : A) → P x → (i : ℕ) (ps : List Piece) → Then (λ ts us. R ts x us) i (row line (f x) ps) ps) where
  rows_then : (i : ℕ) (xs : List A) (ps : List Piece) → Each P xs → Then (λ ts us. Rows R (length xs) ts xs us) i (rows f xs ps) ps
  rows_then i [] ps h = record { at = i; is = no_rows }
  rows_then i (x ∷ xs) ps h =
      let a = one x h.0 i (rows f xs ps) in
      let b = rows_then a.at xs ps h.1 in
      record { at = b.at; is = a_row a.is b.is }

  enclosed_then : (i : ℕ) (xs : List A) (ps : List Piece) → Each P xs → Then (λ ts us. Enclosed R (length xs) ts xs us) i (enclosed f xs ps) ps
  enclosed_then i xs ps h =
      let b = rows_then (suc i) xs (shuts ∷ ps) h in
      record { at = suc b.at; is = in-parentheses is_left b.is is_right }

counted : {A : Type 0} {R : List Tok → A → List Tok → Type 0} {m n : ℕ} {ts us : List Tok} {xs : List A} → m ≡ n → Rows R m ts xs us → Rows R n ts xs us
counted {R = R} {ts = ts} {us = us} {xs = xs} e r = subst (λ k. Rows R k ts xs us) e r

-- ---- the rows of the kinds
point_then : (d : ℕ) (p : List Pair) → Point d p → (i : ℕ) (ps : List Piece) → Then (λ ts us. Rows Coordinate d ts p us) i (row line (point_words p) ps) ps
point_then d p h i ps =
    let t = words_then Coordinate pair_text CanonicalPair pair_is line i p ps h.1 in
    record { at = t.at; is = counted h.0 t.is }

element_then : (e : ℕ) → ElementIs e → (i : ℕ) (ps : List Piece) → Then (λ ts us. Element ts e us) i (row line (element_words e) ps) ps
element_then e h i ps = record { at = suc i + length (hex_text e); is = element (hex_is e (omega (arith, h.1)) (suc i) _) h.0 h.1 }

-- corners, and then two words more
corners_then : (b : Blank) (i : ℕ) (ns : List ℕ) (r l : ℕ) (ps : List Piece) → Each Short ns
    → Then (λ ts us. Rows Hex (length ns) ts ns us) i (row b (map hex_text (ns ++ (r ∷ l ∷ []))) ps) (row space (hex_text r ∷ hex_text l ∷ []) ps)
corners_then b i [] r l ps h = record { at = i; is = no_rows }
corners_then b i (n ∷ ns) r l ps h =
    let t = corners_then space (suc i + length (hex_text n)) ns r l ps h.1 in
    record { at = t.at; is = a_row (hex_is n h.0 (suc i) _) t.is }

facing_then : (n : ℕ) (b : Blank) (f : Facet) → FacetIs n f → (i : ℕ) (ps : List Piece) → Then (λ ts us. Facing n ts f us) i (row b (facet_words f) ps) ps
facing_then n b f h i ps =
    let t = corners_then b i f.corners f.right f.left ps h.1 in
    let a = suc t.at + length (hex_text f.right) in
    record { at = suc a + length (hex_text f.left); is = facing (counted h.0 t.is) (hex_is f.right h.2 (suc t.at) _) (hex_is f.left h.3 (suc a) _) }

mixed_then : (f : Facet) → MixedIs f → (i : ℕ) (ps : List Piece) → Then (λ ts us. Mixed ts f us) i (row line (mixed_words f) ps) ps
mixed_then f h i ps =
    let n = length f.corners in
    let t = facing_then n space f h.2 (suc i + length (hex_text n)) ps in
    record { at = t.at; is = mixed (hex_is n (omega (arith, h.1)) (suc i) _) h.0 h.1 t.is }

body_then : {k : Kind} {n : ℕ} {v : Perhaps} {b : Body} → BodyWrites k n v b → (i : ℕ) (ps : List Piece)
    → Then (λ ts us. BodyOf k n v ts b us) i (body_text v b ps) ps
body_then (points_write {d} {xs = xs} h) i ps =
    let t = enclosed_then (Rows Coordinate d) point_words (Point d) (point_then d) i xs ps h in record { at = t.at; is = node_body t.is }
body_then (mixed_cells {es} h) i ps =
    let t = enclosed_then Element element_words ElementIs element_then i es ps h in record { at = t.at; is = cell_mixed t.is }
body_then (same_cells {e = e}) i ps = let p : 0 < suc e = omega arith in record { at = i; is = cell_same p }
body_then (mixed_faces {fs} h) i ps =
    let t = enclosed_then Mixed mixed_words MixedIs mixed_then i fs ps h in record { at = t.at; is = face_mixed t.is }
body_then (same_faces {c} {fs} h) i ps =
    let t = enclosed_then (Facing (suc c)) facet_words (FacetIs (suc c)) (facing_then (suc c) line) i fs ps h in let p : 0 < suc c = omega arith in record { at = t.at; is = face_same p t.is }

fifth_then : (v : Perhaps) → ShortFifth v → (i : ℕ) (ps : List Piece) → Then (λ ts us. Fifth ts v us) i (fifth_text v (shuts ∷ ps)) (shuts ∷ ps)
fifth_then absent h i ps = record { at = i; is = missing }
fifth_then (given v) h i ps = record { at = suc i + length (hex_text v); is = present (hex_is v h (suc i) _) }

head_then : (h : Header) → ShortHeader h → (i : ℕ) (ps : List Piece) → Then (λ ts us. Heading ts h us) i (head_text h ps) ps
head_then h s i ps =
    let a = suc i + length (hex_text h.zone) in
    let b = suc a + length (hex_text h.first) in
    let c = suc b + length (hex_text h.last) in
    let d = suc c + length (hex_text h.type) in
    let f = fifth_then h.fifth s.fifth d ps in
    record {
      at = suc f.at;
      is = heading is_left (hex_is h.zone s.zone (suc i) _) (hex_is h.first s.first (suc a) _) (hex_is h.last s.last (suc b) _)
          (hex_is h.type s.type (suc c) _) f.is is_right;
    }

-- a section, behind its `(`
abbrev behind : Item → List Piece → List Piece
behind (dim n) ps = written (id_text 2) ∷ gap ∷ written (hex_text n) ∷ shuts ∷ feed ∷ ps
behind (decl k h) ps = written (id_text (id_of k)) ∷ gap ∷ head_text h (shuts ∷ feed ∷ ps)
behind (part k h b) ps = written (id_text (id_of k)) ∷ gap ∷ head_text h (body_text h.fifth b (shuts ∷ feed ∷ ps))
behind other ps = ps

section_then : (j : Item) → Writes j → (i : ℕ) (ps : List Piece) → Then (λ ts us. Section ts j us) i (behind j ps) ps
section_then (dim n) h i ps =
    let a = i + length (id_text 2) in
    record { at = suc (suc (suc a + length (hex_text n))); is = two (id_is 2 (omega arith) i _) (hex_is n h (suc a) _) is_right }
section_then (decl k h) w i ps =
    let t = head_then h w.1 (suc (i + length (id_text (id_of k)))) (shuts ∷ feed ∷ ps) in
    record { at = suc (suc t.at); is = declares k (id_is (id_of k) (kind_id k) i _) t.is w.0 is_right }
section_then (part k h b) w i ps =
    let t = head_then h w.1 (suc (i + length (id_text (id_of k)))) (body_text h.fifth b (shuts ∷ feed ∷ ps)) in
    let u = body_then w.2 t.at (shuts ∷ feed ∷ ps) in
    record { at = suc (suc u.at); is = regular k (id_is (id_of k) (kind_id k) i _) t.is w.0 u.is is_right }
section_then other w i ps = absurd w

file_of_lem : (i : ℕ) (is : List Item) → Each Writes is → File (toks_of i (items_text is)) is
file_of_lem i [] h = over
file_of_lem i (dim n ∷ is) h = let t = section_then (dim n) h.0 (suc i) (items_text is) in section t.is (file_of_lem t.at is h.1)
file_of_lem i (decl k x ∷ is) h = let t = section_then (decl k x) h.0 (suc i) (items_text is) in section t.is (file_of_lem t.at is h.1)
file_of_lem i (part k x b ∷ is) h = let t = section_then (part k x b) h.0 (suc i) (items_text is) in section t.is (file_of_lem t.at is h.1)
file_of_lem i (other ∷ is) h = absurd h.0

-- the text's tokens are these items
pub text_file : (is : List Item) → Each Writes is → File (tokens_of (text_of is)) is
unfolding text_of
text_file is h = rw (tokens_of_pieces (items_text is) (items_parted is)) (file_of_lem 0 is h)

-- and so the text is laid out, if the items keep what they must
pub text_laid : (room : Room) (is : List Item) → Each Writes is → length (text_of is) ≤ file_bytes
    → ((before : List Item) (i : Item) (after : List Item) → is ≡ before ++ (i ∷ after) → Fits room before i) → Whole is → LaidText room (text_of is) is
text_laid room is h l f w =
    record {
      short = l;
      tokens = tokens_of (text_of is);
      text = (text_exactly (text_of is) (tokens_of (text_of is))).0 refl;
      laid = record { file = text_file is h; fits = f; whole = w };
    }
