-- No two words of a text touch. Assumes nothing.
use Prim.Native.Nat.{ℕ, zero, suc}
use mathlib.Core.List.{List, [], ◌∷◌, map}
use Rattle.texts.specs.Pieces.{Piece, Blank, space, line, shuts, Ends, Word, Parted}
use Rattle.layout.specs.Items.{Perhaps, absent, given, Header, Pair, Facet, Body, points, elements, facets, Item, dim, decl, part, other}
use Rattle.texts.specs.Texts.{hex_text, row, rows, point_words, element_words, facet_numbers, facet_words, mixed_words, body_text, fifth_text, head_text, items_text, pair_text}
use Rattle.texts.specs.Writes.{Each}
use Rattle.texts.proofs.Words.{hex_word_lem, id_word_lem, pair_word_lem}

words_of : {A : Type 0} (f : A → List ℕ) → ((x : A) → Word (f x)) → (xs : List A) → Each Word (map f xs)
words_of f w [] = tt
words_of f w (x ∷ xs) = (w x, words_of f w xs)

row_ends : (b : Blank) (ws : List (List ℕ)) (ps : List Piece) → Ends ps → Ends (row b ws ps)
row_ends b [] ps e = e
row_ends b (w ∷ ws) ps e = tt

row_parted : (b : Blank) (ws : List (List ℕ)) (ps : List Piece) → Each Word ws → Ends ps → Parted ps → Parted (row b ws ps)
row_parted b [] ps h e p = p
row_parted b (w ∷ ws) ps h e p = (h.0, row_ends space ws ps e, row_parted space ws ps h.1 e p)

module _ {A : Type 0} (f : A → List (List ℕ)) (words : (x : A) → Each Word (f x)) where
  rows_ends : (xs : List A) (ps : List Piece) → Ends ps → Ends (rows f xs ps)
  rows_ends [] ps e = e
  rows_ends (x ∷ xs) ps e = row_ends line (f x) _ (rows_ends xs ps e)

  rows_parted : (xs : List A) (ps : List Piece) → Ends ps → Parted ps → Parted (rows f xs ps)
  rows_parted [] ps e p = p
  rows_parted (x ∷ xs) ps e p = row_parted line (f x) _ (words x) (rows_ends xs ps e) (rows_parted xs ps e p)

point_words_lem : (p : List Pair) → Each Word (point_words p)
point_words_lem p = words_of pair_text pair_word_lem p

element_words_lem : (e : ℕ) → Each Word (element_words e)
element_words_lem e = (hex_word_lem e, tt)

facet_words_lem : (f : Facet) → Each Word (facet_words f)
facet_words_lem f = words_of hex_text hex_word_lem (facet_numbers f)

mixed_words_lem : (f : Facet) → Each Word (mixed_words f)
mixed_words_lem f = (hex_word_lem _, facet_words_lem f)

-- a body, or what comes behind it, begins with a parenthesis
body_parted : (v : Perhaps) (b : Body) (ps : List Piece) → Parted ps → Parted (body_text v b (shuts ∷ ps))
body_parted v (points d xs) ps p = rows_parted point_words point_words_lem xs _ tt p
body_parted absent (elements es) ps p = p
body_parted (given zero) (elements es) ps p = rows_parted element_words element_words_lem es _ tt p
body_parted (given (suc e)) (elements es) ps p = p
body_parted absent (facets fs) ps p = p
body_parted (given zero) (facets fs) ps p = rows_parted mixed_words mixed_words_lem fs _ tt p
body_parted (given (suc c)) (facets fs) ps p = rows_parted facet_words facet_words_lem fs _ tt p

fifth_parted : (v : Perhaps) (ps : List Piece) → Parted ps → Ends (fifth_text v (shuts ∷ ps)) × Parted (fifth_text v (shuts ∷ ps))
fifth_parted absent ps p = (tt, p)
fifth_parted (given v) ps p = (tt, (hex_word_lem v, tt, p))

head_parted : (h : Header) (ps : List Piece) → Parted ps → Parted (head_text h ps)
head_parted h ps p =
    let f = fifth_parted h.fifth ps p in
    (hex_word_lem _, tt, (hex_word_lem _, tt, (hex_word_lem _, tt, (hex_word_lem _, f.0, f.1))))

pub items_parted : (is : List Item) → Parted (items_text is)
items_parted [] = tt
items_parted (dim n ∷ is) = (id_word_lem 2, tt, (hex_word_lem n, tt, items_parted is))
items_parted (decl k h ∷ is) = (id_word_lem _, tt, head_parted h _ (items_parted is))
items_parted (part k h b ∷ is) = (id_word_lem _, tt, head_parted h _ (body_parted h.fifth b _ (items_parted is)))
items_parted (other ∷ is) = items_parted is
