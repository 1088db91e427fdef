-- [02:M-101]. The text of items, as its pieces; each definition takes what comes behind. To be believed: all of this file. Assumes nothing.
use Rattle.std.specs.Prelude.{ℕ, zero, suc, List, [], ◌∷◌, ◌++◌, map, length}
use Rattle.figures.specs.Figures.{figures}
use Rattle.figures.specs.Signed.{coordinate_text}
use Rattle.texts.specs.Pieces.{Piece, apart, gap, feed, opens, shuts, written, Blank, space, line, bytes_of}
use Rattle.layout.specs.Items.{id_of, Perhaps, absent, given, Header, Pair, Facet, Body, points, elements, facets, Item, dim, decl, part, other}

-- "Lower-case hexadecimal without leading zeros"; ids are decimal
abbrev pub hex_text : ℕ → List ℕ
hex_text n = figures 16 n

abbrev pub id_text : ℕ → List ℕ
id_text n = figures 10 n

abbrev pub pair_text : Pair → List ℕ
pair_text p = coordinate_text p.mantissa p.exponent

-- "One blank between words"; each word has the blank before it, the first word's is b
abbrev pub row : Blank → List (List ℕ) → List Piece → List Piece
row b [] ps = ps
row b (w ∷ ws) ps = apart b ∷ written w ∷ row space ws ps

-- "a line feed before each body row"
abbrev pub rows : {A : Type 0} → (A → List (List ℕ)) → List A → List Piece → List Piece
rows f [] ps = ps
rows f (x ∷ xs) ps = row line (f x) (rows f xs ps)

abbrev pub enclosed : {A : Type 0} → (A → List (List ℕ)) → List A → List Piece → List Piece
enclosed f xs ps = opens ∷ rows f xs (shuts ∷ ps)

-- ---- what a row's words are
abbrev pub point_words : List Pair → List (List ℕ)
point_words p = map pair_text p

abbrev pub element_words : ℕ → List (List ℕ)
element_words e = hex_text e ∷ []

abbrev pub facet_numbers : Facet → List ℕ
facet_numbers f = f.corners ++ (f.right ∷ f.left ∷ [])

abbrev pub facet_words : Facet → List (List ℕ)
facet_words f = map hex_text (facet_numbers f)

-- "element 0 sections with a type for each row"
abbrev pub mixed_words : Facet → List (List ℕ)
mixed_words f = hex_text (length f.corners) ∷ facet_words f

-- "a body's `(` directly behind the header"
abbrev pub body_text : Perhaps → Body → List Piece → List Piece
body_text v (points d xs) ps = enclosed point_words xs ps
body_text absent (elements es) ps = ps
body_text (given zero) (elements es) ps = enclosed element_words es ps
body_text (given (suc e)) (elements es) ps = ps
body_text absent (facets fs) ps = ps
body_text (given zero) (facets fs) ps = enclosed mixed_words fs ps
body_text (given (suc c)) (facets fs) ps = enclosed facet_words fs ps

abbrev pub fifth_text : Perhaps → List Piece → List Piece
fifth_text absent ps = ps
fifth_text (given v) ps = gap ∷ written (hex_text v) ∷ ps

abbrev pub head_text : Header → List Piece → List Piece
head_text h ps =
    opens ∷ written (hex_text h.zone) ∷ gap ∷ written (hex_text h.first) ∷ gap ∷ written (hex_text h.last) ∷ gap ∷ written (hex_text h.type)
    ∷ fifth_text h.fifth (shuts ∷ ps)

-- "One blank .. between an id and its header", "a line feed .. after each section"
abbrev pub item_text : Item → List Piece → List Piece
item_text (dim n) ps = opens ∷ written (id_text 2) ∷ gap ∷ written (hex_text n) ∷ shuts ∷ feed ∷ ps
item_text (decl k h) ps = opens ∷ written (id_text (id_of k)) ∷ gap ∷ head_text h (shuts ∷ feed ∷ ps)
item_text (part k h b) ps = opens ∷ written (id_text (id_of k)) ∷ gap ∷ head_text h (body_text h.fifth b (shuts ∷ feed ∷ ps))
item_text other ps = ps

abbrev pub items_text : List Item → List Piece
items_text [] = []
items_text (i ∷ is) = item_text i (items_text is)

unfoldable pub text_of : List Item → List ℕ
text_of is = bytes_of (items_text is)
