-- The rows that a section says have the width of their table, one row for each of its things; where they lie once they are joined. Assumes nothing.
use Prim.Native.Nat.{ℕ, zero, suc, ◌+◌, ◌-◌, ◌*◌, ◌≤◌, ◌<◌}
use native.Mathlib.Nat.{mul-add, mul-le-mul_left}
use native.Mathlib.Omega.{arith}
use mathlib.Core.Path.{◌≡◌, refl, sym, ◌∙◌, ap}
use mathlib.Core.List.{List, [], ◌∷◌, ◌++◌, map}
use lib.IntN.{ℤ, pos}
use lib.ListN.{length, get_or, replicate, length-append, length-replicate, get_or-append}
use lib.Seq.{length-take-le, get_or-append-add}
use Rattle.mesh.specs.Rows.{places, face_words, cell_words, node_words}
use Rattle.layout.specs.Items.{Header, count_of, Pair, Facet, Body, points, elements, facets}
use Rattle.layout.specs.Rows.{Table, joined, piece_of, pad, node_table, face_row, face_table, cell_table}
use Rattle.layout.proofs.Bodies.{Suits, size_of}

-- ---- n rows of w words
abbrev pub Ruled : {A : Type 0} → ℕ → List (List A) → Type 0
Ruled w [] = Unit
Ruled w (r ∷ rs) = (length r ≡ w) × Ruled w rs

joined_length : {A : Type 0} (w : ℕ) (rs : List (List A)) → Ruled w rs → length (joined rs) ≡ w * length rs
joined_length w [] e = omega arith
joined_length w (r ∷ rs) e = length-append r (joined rs) ∙ omega (arith, e.0, joined_length w rs e.1, mul-add w 1 (length rs))

joined_at : {A : Type 0} (d : A) (w : ℕ) (rs : List (List A)) → Ruled w rs → (j c : ℕ) → j < length rs → c < w
    → get_or (joined rs) (w * j + c) d ≡ get_or (get_or rs j []) c d
joined_at d w [] e j c l m = absurd (omega arith)
joined_at d w (r ∷ rs) e zero c l m = let z : w * 0 + c ≡ c = omega arith in rw z (get_or-append r (joined rs) d c (omega (arith, e.0)))
joined_at d w (r ∷ rs) e (suc j) c l m =
    let z : w * suc j + c ≡ length r + (w * j + c) = omega (arith, e.0, mul-add w 1 j) in
    rw z (get_or-append-add r (joined rs) (w * j + c) d ∙ joined_at d w rs e.1 j c (omega arith) m)

-- ---- of every table
pub record Rowed {A : Type 0} (w n : ℕ) (rs : List (List A)) : Type 0 where
  pub ruled : Ruled w rs
  pub many : length rs ≡ n

abbrev pub Formed : {A : Type 0} → Table A → Type 0
Formed t = (h : Header) (b : Body) → Suits t.kind b → Rowed t.width (size_of b) (t.rows h b)

map_rowed : {A B : Type 0} (f : B → List A) (w : ℕ) → ((x : B) → length (f x) ≡ w) → (xs : List B) → Rowed w (length xs) (map f xs)
map_rowed f w h [] = record { ruled = tt; many = refl }
map_rowed f w h (x ∷ xs) = let r = map_rowed f w h xs in record { ruled = (h x, r.ruled); many = ap suc r.many }

pub pad_length : {A : Type 0} (n : ℕ) (d : A) (l : List A) → length (pad n d l) ≡ n
pad_length n d l = length-take-le n (l ++ replicate n d) (omega (arith, length-append l (replicate n d), length-replicate n d))

pub node_formed : (f : Pair → ℤ) → Formed (node_table f)
node_formed f h (points d ps) s = map_rowed (λ p. pad node_words (pos 0) (map f p)) node_words (λ p. pad_length node_words (pos 0) (map f p)) ps
node_formed f h (elements es) s = absurd s
node_formed f h (facets fs) s = absurd s

face_row_length : (n t : ℕ) (f : Facet) → length (face_row n t f) ≡ face_words n
face_row_length n t f = rw length-append (omega (arith, pad_length n 0 f.corners))

pub face_formed : Formed face_table
face_formed h (points d ps) s = absurd s
face_formed h (elements es) s = absurd s
face_formed h (facets fs) s = map_rowed (face_row places h.type) (face_words places) (face_row_length places h.type) fs

pub cell_formed : Formed cell_table
cell_formed h (points d ps) s = absurd s
cell_formed h (elements es) s = map_rowed (λ e. e ∷ h.type ∷ []) cell_words (λ e. refl) es
cell_formed h (facets fs) s = absurd s

module _ {A : Type 0} (t : Table A) (formed : Formed t) (h : Header) (b : Body) (s : Suits t.kind b) where
  piece_length : length (piece_of t h b).words ≡ t.width * size_of b
  piece_length = let r = formed h b s in joined_length t.width (t.rows h b) r.ruled ∙ ap (λ n. t.width * n) r.many

  -- the run of a section ends where the rows of its last index end
  pub piece_end : size_of b ≡ count_of h → 1 ≤ h.first → h.first ≤ h.last → (piece_of t h b).at + length (piece_of t h b).words ≡ t.width * h.last
  piece_end e l o =
      let z : h.first - 1 + count_of h ≡ h.last = omega arith in
      ap (λ n. t.width * (h.first - 1) + n) (piece_length ∙ ap (λ n. t.width * n) e)
      ∙ sym (mul-add t.width (h.first - 1) (count_of h)) ∙ ap (λ n. t.width * n) z

  -- the word c of row j in it
  pub piece_at : (d : A) (j c : ℕ) → j < size_of b → c < t.width
      → (t.width * j + c < length (piece_of t h b).words) × (get_or (piece_of t h b).words (t.width * j + c) d ≡ get_or (get_or (t.rows h b) j []) c d)
  piece_at d j c l m =
      let r = formed h b s in (
        omega (arith, piece_length, mul-add t.width j 1, mul-le-mul_left {m = j + 1} {n = size_of b} t.width (omega arith)),
        joined_at d t.width (t.rows h b) r.ruled j c (omega (arith, r.many)) m,
      )
