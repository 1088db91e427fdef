-- [01:Errors meshers have really made]. Three errors of the earlier readers, each shut out by a theorem of its name. Assumes nothing.
use Rattle.std.specs.Prelude as Std
use Prim.Native.Nat.{ℕ, suc, ◌+◌, ◌-◌, ◌*◌, ◌≤◌, ◌<◌}
use native.Mathlib.Nat.{mul-add, mul-le-mul_left}
use native.Mathlib.Omega.{arith}
use mathlib.Core.Path.{◌≡◌, refl, ◌∙◌, ap}
use mathlib.Core.Logic.{inr}
use mathlib.Core.List.Memᴰ
use mathlib.Core.List.{List, [], ◌∷◌, ◌++◌, Memᴰ}
use lib.ListN.{length, get_or}
use Rattle.facts.specs.Text.{bytes}
use Rattle.tokens.specs.Listed.{Tok, left, word}
use Rattle.digits.specs.Digits.{digit_of, digits_in}
use Rattle.numbers.specs.Whole.{hexadecimal_of, whole_of}
use Rattle.mesh.specs.declared.Zone.{Zone}
use Rattle.mesh.specs.Rows.{places, face_words}
use Rattle.layout.specs.Items.{Kind, face, Header, Facet, Body, facets, Item, part}
use Rattle.layout.specs.Grammar.{is_left, number, Heading, heading}
use Rattle.layout.specs.Keeps.{Room, Some, Declares, parts_in, Laid}
use Rattle.layout.specs.Rows.{Holding, Table, piece_of, pieces_of, face_row, face_rows, face_table, zone_pieces, no_zone}
use Rattle.layout.specs.State.{start, per, after_all}
use Rattle.layout.proofs.Lists.{all_at, lifted, parted}
use Rattle.layout.proofs.Sums.{total_is}
use Rattle.layout.proofs.Bodies.{Suits, size_of}
use Rattle.layout.proofs.Each.{laid_seen}
use Rattle.layout.proofs.Formed.{Formed, face_formed, piece_end, piece_at}
use Rattle.layout.proofs.Pieces.{Sized, file_sized, piece_stands, piece_from}
use Rattle.layout.proofs.Exactly.{zones_length}
use Rattle.layout.proofs.FaceRows.{no_facet, map_at, corner_at, behind_at, body_few, file_stood}

-- ---- no lookup past the declared
-- in a laid-out file every regular section lies from 1 to the total of its kind, whatever total is asked for
pub no_row_past_the_total : {room : Room} {ts : List Tok} {is : List Item} → Laid room ts is
    → (before : List Item) (k : Kind) (h : Header) (b : Body) (after : List Item) → is ≡ before ++ (part k h b ∷ after)
    → (t : ℕ) → Some (Declares k t) is → (1 ≤ h.first) × (h.first ≤ h.last) × (h.last ≤ t)
no_row_past_the_total {room} {is = is} l before k h b after e t d =
    let f = l.fits before (part k h b) after e in
    let one = total_is is k (per (after_all start is) k) ((laid_seen room l).kinds k) in
    let a = (one t d).1 in
    let c = (one f.total (lifted _ before _ e f.declared)).1 in
    (f.low, f.order, omega (arith, f.high))

-- "Rows .. beyond the totals stay as they were": where nothing is declared, all rows
pub rows_past_the_total_stay : {A : Type 0} (d : A) (t : Table A) → Formed t → {is : List Item} {old new : List A} → Holding d (pieces_of t is) old new
    → {room : Room} {ts : List Tok} → Laid room ts is → (k : ℕ) → ((n : ℕ) → Some (Declares t.kind n) is → t.width * n ≤ k)
    → get_or new k d ≡ get_or old k d
rows_past_the_total_stay d t formed {is = is} holding l k past =
    holding.stays k λ p m.
    let f = piece_from t p is m in
    let h = f.header in
    let q = parted f.stands in
    let g = l.fits q.0 (part t.kind h f.body) q.1 q.2 in
    let z = all_at Sized (part t.kind h f.body) is (file_sized l.file) f.stands in
    let e = piece_end t formed h f.body z.0 z.1 g.low g.order in
    let n = past g.total (lifted _ q.0 _ q.2 g.declared) in
    rw f.same (inr (omega (arith, e, n, mul-le-mul_left {m = h.last} {n = g.total} t.width g.high)))

-- ".. and records"
pub records_past_the_count_stay : (is : List Item) {old new : List Zone} → Holding no_zone (zone_pieces is) old new
    → (k : ℕ) → parts_in is ≤ k → get_or new k no_zone ≡ get_or old k no_zone
records_past_the_count_stay is holding k l =
    holding.stays k λ p m. rw (Memᴰ.eq_of_singleton m) (inr (omega (arith, zones_length is)))

-- ---- no index is moved
module _ {A : Type 0} (d : A) (t : Table A) (formed : Formed t) {is : List Item} {old new : List A} (holding : Holding d (pieces_of t is) old new) where
  -- of each section of its kind the table holds the word c of row j, as it is, in the row of the index first + j
  pub no_index_is_moved : (h : Header) (b : Body) → Memᴰ (part t.kind h b) is → Suits t.kind b → (j c : ℕ) → j < size_of b → c < t.width
      → get_or new (t.width * (h.first - 1 + j) + c) d ≡ get_or (get_or (t.rows h b) j []) c d
  no_index_is_moved h b m s j c l n =
      let p = piece_at t formed h b s d j c l n in
      let z : t.width * (h.first - 1 + j) + c ≡ t.width * (h.first - 1) + (t.width * j + c) = omega (arith, mul-add t.width (h.first - 1) j) in
      rw z (holding.there (piece_of t h b) (piece_stands t h b is m) (t.width * j + c) p.0 ∙ p.1)

-- ---- of faces
-- from the word `at` on the table holds this facet and this type
pub record FaceAt (rows : List ℕ) (at t : ℕ) (f : Facet) : Type 0 where
  pub count : get_or rows at 0 ≡ length f.corners
  -- "unused ones 0"
  pub corner : (c : ℕ) → c < places → get_or rows (at + suc c) 0 ≡ get_or f.corners c 0
  pub right : get_or rows (at + (places + 1)) 0 ≡ f.right
  pub left : get_or rows (at + (places + 2)) 0 ≡ f.left
  pub type : get_or rows (at + (places + 3)) 0 ≡ t

-- node count, corners, right and left cell of each face are the numbers of the facet, whatever they are:
-- `Facing` and `Mixed` say that these are the values of the file's words
pub no_face_is_moved : {is : List Item} {old new : List ℕ} → Holding 0 (pieces_of face_table is) old new
    → (h : Header) (fs : List Facet) → Memᴰ (part face h (facets fs)) is → (j : ℕ) → j < length fs
    → FaceAt new (face_words places * (h.first - 1 + j)) h.type (get_or fs j no_facet)
no_face_is_moved {is} {old} {new} held h fs m j l =
    record {
      count = let z : face_words places * (h.first - 1 + j) + 0 ≡ face_words places * (h.first - 1 + j) = omega arith in rw z at (at 0 (omega arith));
      corner = λ c n. at (suc c) (omega arith) ∙ corner_at places h.type (get_or fs j no_facet) c n;
      right = at (places + 1) (omega arith) ∙ behind_at places h.type (get_or fs j no_facet) 0;
      left = at (places + 2) (omega arith) ∙ behind_at places h.type (get_or fs j no_facet) 1;
      type = at (places + 3) (omega arith) ∙ behind_at places h.type (get_or fs j no_facet) 2;
    }
  where
    at : (c : ℕ) → c < face_words places → get_or new (face_words places * (h.first - 1 + j) + c) 0 ≡ get_or (face_row places h.type (get_or fs j no_facet)) c 0
    at c n =
        no_index_is_moved 0 face_table face_formed held h (facets fs) m tt j c l n
        ∙ ap (λ r. get_or r c 0) (map_at (face_row places h.type) fs j no_facet [] l)

-- and no corner is left out: a face of a laid-out file has no more corners than there are places
pub no_corner_is_lost : {room : Room} {ts : List Tok} {is : List Item} → Laid room ts is → (h : Header) (fs : List Facet)
    → Memᴰ (part face h (facets fs)) is
    → (j : ℕ) → j < length fs → length (get_or fs j no_facet).corners ≤ places
no_corner_is_lost l h fs m =
    let q = parted m in
    body_few (file_stood l.file m).body (l.fits q.0 (part face h (facets fs)) q.1 q.2).fifth

-- ---- zone types are the hexadecimal value of the word
-- these tokens begin with a header whose fourth word has this value
pub data TypeWord : List Tok → ℕ → Type 0 where
  fourth : {a b c d e t : ℕ} {z f l w : List ℕ} {us : List Tok}
      → hexadecimal_of w ≡ Std.Some t → TypeWord (left a ∷ word b z ∷ word c f ∷ word d l ∷ word e w ∷ us) t

type_word : {ts us : List Tok} {h : Header} → Heading ts h us → TypeWord ts h.type
type_word (heading is_left (number z) (number f) (number l) (number t) v r) = fourth t

-- and each row of a face section ends with that value
pub zone_types_are_hexadecimal : {ts us : List Tok} {h : Header} → Heading ts h us
    → TypeWord ts h.type × ((fs : List Facet) (j : ℕ) → j < length fs → get_or (get_or (face_rows h (facets fs)) j []) (places + 3) 0 ≡ h.type)
zone_types_are_hexadecimal {h = h} a = (
  type_word a,
  λ fs j l. ap (λ r. get_or r (places + 3) 0) (map_at (face_row places h.type) fs j no_facet [] l) ∙ behind_at places h.type (get_or fs j no_facet) 2,
)

-- "Type `24` read as decimal. It is 36, outflow; interface is `18`."
pub outflow_is_24 : (hexadecimal_of (bytes "24") ≡ Std.Some 36) × (hexadecimal_of (bytes "18") ≡ Std.Some 24)
unfolding digit_of digits_in whole_of
outflow_is_24 = (refl, refl)
