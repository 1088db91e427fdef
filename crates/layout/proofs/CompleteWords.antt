-- Words, bodies and headers that are laid out as the grammar says are read. Assumes nothing.
use Rattle.std.specs.Prelude.{Option}
use Prim.Native.Nat.{ℕ, zero, suc, ◌<◌}
use native.Mathlib.Omega.{arith}
use mathlib.Core.Path.{◌≡◌, refl, ◌∙◌, ap}
use mathlib.Core.List.{List, [], ◌∷◌}
use mathlib.Core.Bool.{Bool, true, false, ◌||◌}
use borrow.Author.Tests.{lt-ltb}
use lib.Dec.{eqb}
use Rattle.facts.proofs.Decides.{and_is, le_is, or_right}
use Rattle.sizes.specs.Sizes.{depth}
use Rattle.tokens.specs.Listed.{Tok, left, right, text, cut, word}
use Rattle.numbers.specs.declared.sort.Sort.{Sort}
use Rattle.decimals.proofs.Exactly.{coordinate_of_exactly}
use Rattle.layout.specs.Items.{Kind, node, cell, face, Perhaps, absent, given, Header, Pair, Body, Wide}
use Rattle.layout.specs.Keeps.{FifthOf}
use Rattle.layout.specs.Grammar.{Left, is_left, Right, is_right, Number, number, Hex, Coordinate, coordinate, Fifth, present, missing, Heading, heading, Rows, no_rows, a_row, Enclosed, enclosed, Element, element, Facing, facing, Mixed, mixed, BodyOf, node_body, cell_mixed, cell_same, face_mixed, face_same, Inside, closed, a_word, a_text, nested}
use Rattle.layout.specs.Reading.{Got, got, Reader, Read, left_of, right_of, word_of, number_by, hex_word, pair_word, skip, rows_of, enclosed_of}
use Rattle.layout.specs.State.{is_node}
use Rattle.layout.specs.Sections.{Head, header_of, Word, fifth_of, head_of, element_of, hex_of, facing_of, mixed_of, body_of}

-- where the first token stands
abbrev head_at : List Tok → ℕ
head_at [] = 0
head_at (left o ∷ ts) = o
head_at (right o ∷ ts) = o
head_at (text o ∷ ts) = o
head_at (cut o ∷ ts) = o
head_at (word o w ∷ ts) = o

abbrev read_at : ℕ → List Tok → Read
read_at v ts = record { value = v; at = head_at ts }

module _ (size : ℕ) where
  -- ---- single tokens
  pub left_is : {ts us : List Tok} → Left ts us → left_of size ts ≡ got tt us
  unfolding left_of
  left_is is_left = refl

  pub right_is : {ts us : List Tok} → Right ts us → right_of size ts ≡ got (head_at ts) us
  unfolding right_of
  right_is is_right = refl

  pub number_is : {f : List ℕ → Option ℕ} {ts us : List Tok} {v : ℕ} (k : Sort) → Number f ts v us → number_by size f k ts ≡ got (read_at v ts) us
  unfolding word_of
  number_is k (number e) = rw e

  pub hex_is : {ts us : List Tok} {v : ℕ} → Hex ts v us → hex_word size ts ≡ got (read_at v ts) us
  hex_is h = number_is Sort.Hexadecimal h

  pair_is : {ts us : List Tok} {p : Pair} → Coordinate ts p us → pair_word size ts ≡ got p us
  unfolding word_of
  pair_is (coordinate {w = w} {m = m} {e = e} h) = rw ((coordinate_of_exactly w m e).1 h)

  -- ---- the level outside, d parentheses deep
  abbrev after : ℕ → List Tok → Got Unit
  after zero us = got tt us
  after (suc d) us = skip size d us

  closes : (d o : ℕ) (us : List Tok) → skip size d (right o ∷ us) ≡ after d us
  unfolding skip
  closes zero o us = refl
  closes (suc d) o us = refl

  opens : (d o : ℕ) (ts : List Tok) → suc d < depth → skip size d (left o ∷ ts) ≡ skip size (suc d) ts
  unfolding skip
  opens d o ts l = rw (lt-ltb (suc d) depth l, skip)

  pub skip_is : (d e : ℕ) {ts us : List Tok} → Inside e ts us → e ≡ suc d → skip size d ts ≡ after d us
  unfolding skip
  skip_is d e (closed {o = o} {us = us}) q = closes d o us
  skip_is d e (a_word h) q = skip_is d e h q
  skip_is d e (a_text h) q = skip_is d e h q
  skip_is d e (nested {o = o} {ts = ts} l h k) q = opens d o ts (rw q at l) ∙ (skip_is (suc d) _ h (ap suc q) ∙ skip_is d e k q)

  -- ---- bodies
  abbrev Reads : {A : Type 0} → (List Tok → A → List Tok → Type 0) → Reader A → Type 0
  Reads {A} R r = (ts : List Tok) (a : A) (us : List Tok) → R ts a us → r ts ≡ got a us

  module _ {A : Type 0} (R : List Tok → A → List Tok → Type 0) (r : Reader A) (f : Reads R r) where
    rows_is : {n : ℕ} {ts us : List Tok} {xs : List A} → Rows R n ts xs us → rows_of size r n ts ≡ got xs us
    unfolding rows_of
    rows_is no_rows = refl
    rows_is (a_row h t) = rw (f _ _ _ h, rows_is t)

    enclosed_is : {n : ℕ} {ts us : List Tok} {xs : List A} → Enclosed R n ts xs us → enclosed_of size r n ts ≡ got xs us
    enclosed_is (enclosed l h q) = rw (left_is l, rows_is h, right_is q)

  value_is : Reads Hex (hex_of size)
  unfolding hex_of
  value_is ts v us h = rw (hex_is h)

  element_is : Reads Element (element_of size)
  unfolding element_of
  element_is ts e us (element h l m) = rw (hex_is h, (and_is (le_is 1 e) (le_is e 6)).1 (l, m))

  facing_is : (n : ℕ) → Reads (Facing n) (facing_of size n)
  unfolding facing_of
  facing_is n ts f us (facing p q r) = rw (rows_is Hex (hex_of size) value_is p, value_is _ _ _ q, value_is _ _ _ r)

  mixed_is : Reads Mixed (mixed_of size)
  unfolding mixed_of
  mixed_is ts f us (mixed {n} h l m p) = rw (hex_is h, (and_is (le_is 2 n) (le_is n 4)).1 (l, m)) (facing_is n _ _ _ p)

  point_is : (d : ℕ) → Reads (Rows Coordinate d) (rows_of size (pair_word size) d)
  point_is d ts p us h = rows_is Coordinate (pair_word size) (λ _ _ _ c. pair_is c) h

  pub body_is : {k : Kind} {n : ℕ} {v : Perhaps} {ts us : List Tok} {b : Body} (d : ℕ) → BodyOf k n v ts b us → Wide d b → body_of size k d n v ts ≡ got b us
  unfolding body_of
  body_is d (node_body {d = e} p) w = rw (← w, enclosed_is (Rows Coordinate e) _ (point_is e) p)
  body_is d (cell_mixed p) w = rw (enclosed_is Element _ element_is p)
  body_is d (cell_same {e = zero} h) w = absurd (omega arith)
  body_is d (cell_same {e = suc e} h) w = refl
  body_is d (face_mixed p) w = rw (enclosed_is Mixed _ mixed_is p)
  body_is d (face_same {c = zero} h p) w = absurd (omega arith)
  body_is d (face_same {c = suc c} h p) w = rw (enclosed_is (Facing (suc c)) _ (facing_is (suc c)) p)

  -- ---- headers
  abbrev pub MayLack : Bool → Perhaps → Type 0
  MayLack b absent = b ≡ true
  MayLack b (given v) = Unit

  pub lacks_decl : (b : Bool) (v : Perhaps) → b ≡ true → MayLack b v
  lacks_decl b absent e = e
  lacks_decl b (given n) e = tt

  pub lacks_part : (z : Bool) (k : Kind) (v : Perhaps) → FifthOf k v → MayLack (z || is_node k) v
  lacks_part z node absent f = or_right z refl
  lacks_part z node (given n) f = tt
  lacks_part z cell absent f = absurd f
  lacks_part z cell (given n) f = tt
  lacks_part z face absent f = absurd f
  lacks_part z face (given n) f = tt

  record Fifths (b : Bool) (ts us : List Tok) (v : Perhaps) : Type 0 where
    pub found : Word
    pub reads : fifth_of size b ts ≡ got found us
    pub says : found.word ≡ v

  fifth_is : {ts us : List Tok} {v : Perhaps} → Fifth ts v us → (b : Bool) → MayLack b v → Fifths b ts us v
  unfolding fifth_of
  fifth_is missing b l = record { found = record { word = absent; at = 0 }; reads = rw l; says = refl }
  fifth_is (present {us = us} {v = v} (number {o = o} {w = w} e)) true l =
      record { found = record { word = given v; at = o }; reads = rw (hex_is (number {o = o} {w = w} {us = us} e)); says = refl }
  fifth_is (present {us = us} {v = v} (number {o = o} {w = w} e)) false l =
      record { found = record { word = given v; at = o }; reads = rw (hex_is (number {o = o} {w = w} {us = us} e)); says = refl }

  pub record Heads (k : Kind) (ts us : List Tok) (h : Header) : Type 0 where
    pub head : Head
    pub reads : head_of size k ts ≡ got head us
    pub says : header_of head ≡ h

  pub head_is : {ts us : List Tok} {h : Header} → Heading ts h us → (k : Kind) → MayLack (eqb h.zone 0 || is_node k) h.fifth → Heads k ts us h
  unfolding head_of
  head_is (heading {z = z} {f = f} {l = l} {t = t} {t₀ = t₀} {t₁ = t₁} {t₂ = t₂} {t₃ = t₃} {t₅ = t₅} a hz hf hl ht hv r) k m =
      let w = fifth_is hv (eqb z 0 || is_node k) m in
      record {
        head =
            record {
              zone = read_at z t₀;
              first = read_at f t₁;
              last = read_at l t₂;
              type = read_at t t₃;
              fifth = w.found.word;
              fifth_at = w.found.at;
              end = head_at t₅;
            };
        reads = rw (left_is a, hex_is hz, hex_is hf, hex_is hl, hex_is ht, w.reads, right_is r);
        says = ap (λ v. record { zone = z; first = f; last = l; type = t; fifth = v }) w.says;
      }
