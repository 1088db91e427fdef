-- What a reader of words, bodies and headers accepts is laid out as the grammar says. Assumes nothing.
use Rattle.std.specs.Prelude.{Option, Some, None}
use Prim.Native.Nat.{ℕ, zero, suc, ◌<◌}
use native.Mathlib.Omega.{arith}
use mathlib.Core.Path.{◌≡◌, refl}
use mathlib.Core.List.{List, [], ◌∷◌}
use mathlib.Core.Bool.{Bool, true, false, ◌&&◌}
use borrow.Author.Tests.{ltb-true}
use Rattle.facts.proofs.Branch.{differ}
use Rattle.facts.proofs.Decides.{and_is, le_is, and_split}
use Rattle.sizes.specs.Sizes.{depth}
use Rattle.tokens.specs.Listed.{Tok, left, right, text, cut, word}
use Rattle.decimals.specs.declared.decimal.Decimal.{Decimal}
use Rattle.numbers.specs.declared.sort.Sort.{Sort}
use Rattle.numbers.specs.Whole.{hexadecimal_of}
use Rattle.decimals.specs.Coordinate.{coordinate_of}
use Rattle.decimals.proofs.Exactly.{coordinate_of_exactly}
use Rattle.layout.specs.Items.{Kind, node, cell, face, Perhaps, absent, given, Wide}
use Rattle.layout.specs.Grammar.{Left, is_left, Right, is_right, Number, number, Hex, Coordinate, coordinate, Fifth, present, missing, Heading, heading, Rows, no_rows, a_row, Enclosed, enclosed, Element, element, Facing, facing, Mixed, mixed, BodyOf, node_body, cell_mixed, cell_same, face_mixed, face_same, Inside, closed, a_word, a_text, nested}
use Rattle.layout.specs.Reading.{Reader, Read, left_of, right_of, word_of, numbered, paired, number_by, hex_word, pair_word, skip, rows_of, enclosed_of}
use Rattle.layout.specs.Sections.{header_of, starts_right, fifth_of, head_of, element_of, hex_of, facing_of, mixed_of, body_of}
use Rattle.layout.proofs.Answers.{Held, held, none, bind, sure, fork, lift}

-- ---- a section that is stepped over: d parentheses deep in it
pub data Levels : ℕ → List Tok → List Tok → Type 0 where
  last : {ts us : List Tok} → Inside 1 ts us → Levels zero ts us
  deep : {d : ℕ} {ts us vs : List Tok} → Inside (suc (suc d)) ts vs → Levels d vs us → Levels (suc d) ts us

levels : {d : ℕ} {ts us : List Tok} {t : Tok} → ((e : ℕ) (vs : List Tok) → Inside e ts vs → Inside e (t ∷ ts) vs) → Levels d ts us → Levels d (t ∷ ts) us
levels f (last h) = last (f _ _ h)
levels f (deep h k) = deep (f _ _ h) k

inner : {d o : ℕ} {ts vs us : List Tok} → suc d < depth → Inside (suc (suc d)) ts vs → Levels d vs us → Levels d (left o ∷ ts) us
inner {d} l h (last k) = last (nested {d = suc d} (omega arith) h k)
inner {d} l h (deep k j) = deep (nested {d = suc d} (omega arith) h k) j

level : {d o : ℕ} {ts us : List Tok} → suc d < depth → Levels (suc d) ts us → Levels d (left o ∷ ts) us
level l (deep h k) = inner l h k

pub top : {ts us : List Tok} → Levels zero ts us → Inside 1 ts us
top (last h) = h

module _ (size : ℕ) where
  -- ---- single tokens
  pub left_holds : (ts : List Tok) → Held (λ _ us. Left ts us) (left_of size ts)
  unfolding left_of
  left_holds [] = none
  left_holds (left o ∷ ts) = held is_left
  left_holds (right o ∷ ts) = none
  left_holds (text o ∷ ts) = none
  left_holds (cut o ∷ ts) = none
  left_holds (word o w ∷ ts) = none

  pub right_holds : (ts : List Tok) → Held (λ _ us. Right ts us) (right_of size ts)
  unfolding right_of
  right_holds [] = none
  right_holds (left o ∷ ts) = none
  right_holds (right o ∷ ts) = held is_right
  right_holds (text o ∷ ts) = none
  right_holds (cut o ∷ ts) = none
  right_holds (word o w ∷ ts) = none

  word_holds : {A : Type 0} (P : List Tok → A → List Tok → Type 0) (f : ℕ → List ℕ → Reader A)
      → ((o : ℕ) (w : List ℕ) (us : List Tok) → Held (P (word o w ∷ us)) (f o w us)) → (ts : List Tok) → Held (P ts) (word_of size f ts)
  unfolding word_of
  word_holds P f h [] = none
  word_holds P f h (left o ∷ ts) = none
  word_holds P f h (right o ∷ ts) = none
  word_holds P f h (text o ∷ ts) = none
  word_holds P f h (cut o ∷ ts) = none
  word_holds P f h (word o w ∷ ts) = h o w ts

  pub number_holds : (f : List ℕ → Option ℕ) (k : Sort) (ts : List Tok) → Held (λ r us. Number f ts r.value us) (number_by size f k ts)
  number_holds f k = word_holds (λ ts r us. Number f ts r.value us) (λ o w. numbered size k (f w) o w) λ o w us. by_value o w us (f w) refl
    where
      by_value : (o : ℕ) (w : List ℕ) (us : List Tok) (n : Option ℕ) → f w ≡ n
          → Held (λ (r : Read) us'. Number f (word o w ∷ us) r.value us') (numbered size k n o w us)
      by_value o w us (Some v) e = held (number e)
      by_value o w us None e = none

  pub hex_holds : (ts : List Tok) → Held (λ r us. Hex ts r.value us) (hex_word size ts)
  hex_holds = number_holds hexadecimal_of Sort.Hexadecimal

  pair_holds : (ts : List Tok) → Held (λ p us. Coordinate ts p us) (pair_word size ts)
  pair_holds = word_holds Coordinate (λ o w. paired size (coordinate_of w) o w) λ o w us. by_value o w us (coordinate_of w) refl
    where
      by_value : (o : ℕ) (w : List ℕ) (us : List Tok) (n : Option Decimal) → coordinate_of w ≡ n → Held (Coordinate (word o w ∷ us)) (paired size n o w us)
      by_value o w us (Some d) q = held (coordinate ((coordinate_of_exactly w d.mantissa d.exponent).0 q))
      by_value o w us None q = none

  pub skip_holds : (d : ℕ) (ts : List Tok) → Held (λ _ us. Levels d ts us) (skip size d ts)
  unfolding skip
  skip_holds d [] = none
  skip_holds d (left o ∷ ts) = sure _ _ _ λ e. lift (skip_holds (suc d) ts) λ _ us h. level (ltb-true (suc d) depth e) h
  skip_holds zero (right o ∷ ts) = held (last closed)
  skip_holds (suc d) (right o ∷ ts) = lift (skip_holds d ts) λ _ us h. deep closed h
  skip_holds d (text o ∷ ts) = lift (skip_holds d ts) λ _ us h. levels (λ _ _ i. a_text i) h
  skip_holds d (cut o ∷ ts) = none
  skip_holds d (word o w ∷ ts) = lift (skip_holds d ts) λ _ us h. levels (λ _ _ i. a_word i) h

  -- ---- bodies
  module _ {A : Type 0} (R : List Tok → A → List Tok → Type 0) (r : Reader A) (h : (ts : List Tok) → Held (R ts) (r ts)) where
    rows_holds : (n : ℕ) (ts : List Tok) → Held (Rows R n ts) (rows_of size r n ts)
    unfolding rows_of
    rows_holds zero ts = held no_rows
    rows_holds (suc n) ts = bind (h ts) λ a us p. bind (rows_holds n us) λ xs vs q. held (a_row p q)

    enclosed_holds : (n : ℕ) (ts : List Tok) → Held (Enclosed R n ts) (enclosed_of size r n ts)
    enclosed_holds n ts = bind (left_holds ts) λ _ t₁ l. bind (rows_holds n t₁) λ xs t₂ p. bind (right_holds t₂) λ _ us q. held (enclosed l p q)

  value_holds : (ts : List Tok) → Held (λ v us. Hex ts v us) (hex_of size ts)
  unfolding hex_of
  value_holds ts = bind (hex_holds ts) λ r us p. held p

  element_holds : (ts : List Tok) → Held (Element ts) (element_of size ts)
  unfolding element_of
  element_holds ts =
      bind (hex_holds ts) λ r us p. sure _ _ _ λ e. let b = (and_is (le_is 1 r.value) (le_is r.value 6)).0 e in held (element p b.0 b.1)

  facing_holds : (n : ℕ) (ts : List Tok) → Held (Facing n ts) (facing_of size n ts)
  unfolding facing_of
  facing_holds n ts =
      bind (rows_holds Hex (hex_of size) value_holds n ts) λ ns t₁ p.
      bind (value_holds t₁) λ r t₂ q. bind (value_holds t₂) λ l us y. held (facing p q y)

  mixed_holds : (ts : List Tok) → Held (Mixed ts) (mixed_of size ts)
  unfolding mixed_of
  mixed_holds ts =
      bind (hex_holds ts) λ r t₁ p. sure _ _ _ λ e.
      let b = (and_is (le_is 2 r.value) (le_is r.value 4)).0 e in lift (facing_holds r.value t₁) λ f us q. mixed p b.0 b.1 q

  pub body_holds : (k : Kind) (d n : ℕ) (v : Perhaps) (ts : List Tok) → Held (λ b us. BodyOf k n v ts b us × Wide d b) (body_of size k d n v ts)
  unfolding body_of
  body_holds node d n v ts = bind (enclosed_holds (Rows Coordinate d) _ (rows_holds Coordinate _ pair_holds d) n ts) λ ps us p. held (node_body p, refl)
  body_holds cell d n absent ts = none
  body_holds cell d n (given zero) ts = bind (enclosed_holds Element _ element_holds n ts) λ es us p. held (cell_mixed p, tt)
  body_holds cell d n (given (suc e)) ts = held (cell_same {e = suc e} (omega arith), tt)
  body_holds face d n absent ts = none
  body_holds face d n (given zero) ts = bind (enclosed_holds Mixed _ mixed_holds n ts) λ fs us p. held (face_mixed p, tt)
  body_holds face d n (given (suc c)) ts =
      bind (enclosed_holds (Facing (suc c)) _ (facing_holds (suc c)) n ts) λ fs us p. held (face_same {c = suc c} (omega arith) p, tt)

  -- ---- headers
  right_missing : (ts : List Tok) → starts_right ts ≡ true → Fifth ts absent ts
  right_missing [] e = differ false e refl
  right_missing (left o ∷ ts) e = differ false e refl
  right_missing (right o ∷ ts) e = missing
  right_missing (text o ∷ ts) e = differ false e refl
  right_missing (cut o ∷ ts) e = differ false e refl
  right_missing (word o w ∷ ts) e = differ false e refl

  fifth_holds : (b : Bool) (ts : List Tok) → Held (λ v us. Fifth ts v.word us) (fifth_of size b ts)
  unfolding fifth_of
  fifth_holds b ts =
      fork (b && starts_right ts) (λ e. held (right_missing ts (and_split b (starts_right ts) e).1)) λ e. bind (hex_holds ts) λ r us p. held (present p)

  pub head_holds : (k : Kind) (ts : List Tok) → Held (λ h us. Heading ts (header_of h) us) (head_of size k ts)
  unfolding head_of
  head_holds k ts =
      bind (left_holds ts) λ _ t₀ a. bind (hex_holds t₀) λ z t₁ hz. bind (hex_holds t₁) λ f t₂ hf. bind (hex_holds t₂) λ l t₃ hl. bind (hex_holds t₃) λ t t₄ ht.
      bind (fifth_holds _ t₄) λ v t₅ hv. bind (right_holds t₅) λ e us r. held (heading a hz hf hl ht hv r)
