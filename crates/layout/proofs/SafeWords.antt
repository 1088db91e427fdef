-- A refusal of words, bodies and headers points into the file: its offset is at most the file's length. Assumes nothing.
use Rattle.std.specs.Prelude.{Option, Some, None}
use Prim.Native.Nat.{ℕ, zero, suc, ◌+◌, ◌≤◌}
use native.Mathlib.Omega.{arith}
use native.Mathlib.Nat.{le_refl}
use mathlib.Core.Path.{◌≡◌, ap}
use mathlib.Core.List.{List, [], ◌∷◌}
use mathlib.Core.Bool.{Bool, true, false, ◌&&◌}
use lib.Dec.{ltb, leb}
use lib.ListN.{length, length-append}
use Rattle.facts.proofs.Branch.{either}
use Rattle.sizes.specs.Sizes.{depth}
use Rattle.tokens.specs.Listed.{Tok, left, right, text, cut, word}
use Rattle.tokens.specs.Text.{Text, nothing, blank, opened, shut, string, unclosed, a_word}
use Rattle.decimals.specs.declared.decimal.Decimal.{Decimal}
use Rattle.numbers.specs.declared.sort.Sort.{Sort}
use Rattle.numbers.specs.Whole.{hexadecimal_of}
use Rattle.decimals.specs.Coordinate.{coordinate_of}
use Rattle.numbers.specs.Bad.{bad_at}
use Rattle.numbers.proofs.Bad.{bad_at_within}
use Rattle.layout.specs.declared.Refusal.{Refusal}
use Rattle.layout.specs.Items.{Kind, node, cell, face, Perhaps, absent, given}
use Rattle.layout.specs.Reading.{Got, got, bad, Reader, next, Read, left_of, right_of, word_of, numbered, paired, number_by, hex_word, pair_word, skip, rows_of, enclosed_of}
use Rattle.layout.specs.Sections.{Head, Word, starts_right, fifth_of, head_of, element_of, hex_of, facing_of, mixed_of, body_of}

-- a token lies within the file
abbrev TokIn : ℕ → Tok → Type 0
TokIn size (left o) = o ≤ size
TokIn size (right o) = o ≤ size
TokIn size (text o) = o ≤ size
TokIn size (cut o) = o ≤ size
TokIn size (word o w) = o + length w ≤ size

pub data AllIn (size : ℕ) : List Tok → Type 0 where
  no_more : AllIn size []
  one_in : {t : Tok} {ts : List Tok} → TokIn size t → AllIn size ts → AllIn size (t ∷ ts)

pub text_in : (size : ℕ) {i : ℕ} {r : List ℕ} {ts : List Tok} → Text i r ts → i + length r ≤ size → AllIn size ts
text_in size nothing h = no_more
text_in size (blank c t) h = text_in size t (omega arith)
text_in size (opened {i = i} c t) h = one_in {t = left i} (omega arith) (text_in size t (omega arith))
text_in size (shut {i = i} c t) h = one_in {t = right i} (omega arith) (text_in size t (omega arith))
text_in size (string {i = i} {rest = rest} q w c g d e n t) h =
    one_in {t = text i} (omega arith) (text_in size t (omega (arith, n, ap length e, length-append w (q ∷ rest))))
text_in size (unclosed {i = i} c g) h = one_in {t = cut i} (omega arith) no_more
text_in size (a_word {i = i} {b = b} {rest = rest} w c g st e n t) h =
    one_in {t = word i (b ∷ w)} (omega (arith, ap length e, length-append w rest)) (text_in size t (omega (arith, n, ap length e, length-append w rest)))

-- what is read is fine by P and what is left lies within the file; or the refusal's offset does
pub data Safe {A : Type 0} (size : ℕ) (P : A → Type 0) : Got A → Type 0 where
  safe : {a : A} {us : List Tok} → P a → AllIn size us → Safe size P (got a us)
  points : {w : Refusal} {o : ℕ} → o ≤ size → Safe size P (bad w o)

pub and_then : {A B : Type 0} {size : ℕ} {P : A → Type 0} {Q : B → Type 0} {g : Got A} {f : A → Reader B}
    → Safe size P g → ((a : A) (us : List Tok) → P a → AllIn size us → Safe size Q (f a us)) → Safe size Q (next g f)
and_then (safe {a} {us} p i) k = k a us p i
and_then (points l) k = points l

pub tested : {A : Type 0} {size : ℕ} {Q : A → Type 0} (b : Bool) (w : Refusal) (o : ℕ) {x : Got A} → (b ≡ false → o ≤ size)
    → (b ≡ true → Safe size Q x) → Safe size Q (elim b [ true ↦ x | false ↦ bad w o ])
tested {size = size} {Q} b w o l h = either (Safe size Q) b h (λ e. points (l e))

pub chosen : {A : Type 0} {size : ℕ} {Q : A → Type 0} (b : Bool) {x y : Got A} → (b ≡ true → Safe size Q x) → (b ≡ false → Safe size Q y)
    → Safe size Q (elim b [ true ↦ x | false ↦ y ])
chosen {size = size} {Q} b h k = either (Safe size Q) b h k

abbrev pub Any : {A : Type 0} → A → Type 0
Any a = Unit

module _ (size : ℕ) where
  abbrev pub Safely : {A : Type 0} → (A → Type 0) → Reader A → Type 0
  Safely P r = (ts : List Tok) → AllIn size ts → Safe size P (r ts)

  abbrev pub Placed : Read → Type 0
  Placed r = r.at ≤ size

  -- ---- single tokens
  pub left_safe : Safely Any (left_of size)
  unfolding left_of
  left_safe [] i = points (le_refl size)
  left_safe (left o ∷ ts) (one_in p i) = safe tt i
  left_safe (right o ∷ ts) (one_in p i) = points p
  left_safe (text o ∷ ts) (one_in p i) = points p
  left_safe (cut o ∷ ts) (one_in p i) = points p
  left_safe (word o w ∷ ts) (one_in p i) = points {o = o} (omega (arith, p))

  pub right_safe : Safely (λ o. o ≤ size) (right_of size)
  unfolding right_of
  right_safe [] i = points (le_refl size)
  right_safe (left o ∷ ts) (one_in p i) = points p
  right_safe (right o ∷ ts) (one_in p i) = safe p i
  right_safe (text o ∷ ts) (one_in p i) = points p
  right_safe (cut o ∷ ts) (one_in p i) = points p
  right_safe (word o w ∷ ts) (one_in p i) = points {o = o} (omega (arith, p))

  word_safe : {A : Type 0} (P : A → Type 0) (f : ℕ → List ℕ → Reader A) → ((o : ℕ) (w : List ℕ) → o + length w ≤ size → Safely P (f o w))
      → Safely P (word_of size f)
  unfolding word_of
  word_safe P f h [] i = points (le_refl size)
  word_safe P f h (left o ∷ ts) (one_in p i) = points p
  word_safe P f h (right o ∷ ts) (one_in p i) = points p
  word_safe P f h (text o ∷ ts) (one_in p i) = points p
  word_safe P f h (cut o ∷ ts) (one_in p i) = points p
  word_safe P f h (word o w ∷ ts) (one_in p i) = h o w p ts i

  pub number_safe : (f : List ℕ → Option ℕ) (k : Sort) → Safely Placed (number_by size f k)
  number_safe f k = word_safe Placed _ λ o w l. by_value o w l (f w)
    where
      by_value : (o : ℕ) (w : List ℕ) → o + length w ≤ size → (n : Option ℕ) → Safely Placed (numbered size k n o w)
      by_value o w l (Some v) ts i = let p : o ≤ size = omega arith in safe p i
      by_value o w l None ts i = points {o = o + bad_at k w} (omega (arith, bad_at_within k w))

  pub hex_safe : Safely Placed (hex_word size)
  hex_safe = number_safe hexadecimal_of Sort.Hexadecimal

  pair_safe : Safely Any (pair_word size)
  pair_safe = word_safe Any _ λ o w l. by_value o w l (coordinate_of w)
    where
      by_value : (o : ℕ) (w : List ℕ) → o + length w ≤ size → (n : Option Decimal) → Safely Any (paired size n o w)
      by_value o w l (Some d) ts i = safe tt i
      by_value o w l None ts i = points {o = o + bad_at Sort.Coordinate w} (omega (arith, bad_at_within Sort.Coordinate w))

  pub skip_safe : (d : ℕ) → Safely Any (skip size d)
  unfolding skip
  skip_safe d [] i = points (le_refl size)
  skip_safe d (left o ∷ ts) (one_in p i) = tested (ltb (suc d) depth) Refusal.Depth o (λ _. p) λ _. skip_safe (suc d) ts i
  skip_safe zero (right o ∷ ts) (one_in p i) = safe tt i
  skip_safe (suc d) (right o ∷ ts) (one_in p i) = skip_safe d ts i
  skip_safe d (text o ∷ ts) (one_in p i) = skip_safe d ts i
  skip_safe d (cut o ∷ ts) (one_in p i) = points p
  skip_safe d (word o w ∷ ts) (one_in p i) = skip_safe d ts i

  -- ---- bodies
  module _ {A : Type 0} (r : Reader A) (h : Safely Any r) where
    rows_safe : (n : ℕ) → Safely Any (rows_of size r n)
    unfolding rows_of
    rows_safe zero ts i = safe tt i
    rows_safe (suc n) ts i = and_then (h ts i) λ a us _ j. and_then (rows_safe n us j) λ xs vs _ k. safe tt k

    enclosed_safe : (n : ℕ) → Safely Any (enclosed_of size r n)
    enclosed_safe n ts i = and_then (left_safe ts i) λ _ us _ j. and_then (rows_safe n us j) λ xs vs _ k. and_then (right_safe vs k) λ _ ws _ l. safe tt l

  value_safe : Safely Any (hex_of size)
  unfolding hex_of
  value_safe ts i = and_then (hex_safe ts i) λ r us _ j. safe tt j

  element_safe : Safely Any (element_of size)
  unfolding element_of
  element_safe ts i =
      and_then (hex_safe ts i) λ r us p j. tested (leb 1 r.value && leb r.value 6) Refusal.Type r.at (λ _. p) λ _. safe {a = r.value} tt j

  facing_safe : (n : ℕ) → Safely Any (facing_of size n)
  unfolding facing_of
  facing_safe n ts i =
      and_then (rows_safe (hex_of size) value_safe n ts i) λ _ us _ j. and_then (value_safe us j) λ _ vs _ k. and_then (value_safe vs k) λ _ ws _ l. safe tt l

  mixed_safe : Safely Any (mixed_of size)
  unfolding mixed_of
  mixed_safe ts i =
      and_then (hex_safe ts i) λ r us p j. tested (leb 2 r.value && leb r.value 4) Refusal.Type r.at (λ _. p) λ _. facing_safe r.value us j

  pub body_safe : (k : Kind) (d n : ℕ) (v : Perhaps) → Safely Any (body_of size k d n v)
  unfolding body_of
  body_safe node d n v ts i = and_then (enclosed_safe _ (rows_safe _ pair_safe d) n ts i) λ _ us _ j. safe tt j
  body_safe cell d n absent ts i = points (le_refl size)
  body_safe cell d n (given zero) ts i = and_then (enclosed_safe _ element_safe n ts i) λ _ us _ j. safe tt j
  body_safe cell d n (given (suc e)) ts i = safe tt i
  body_safe face d n absent ts i = points (le_refl size)
  body_safe face d n (given zero) ts i = and_then (enclosed_safe _ mixed_safe n ts i) λ _ us _ j. safe tt j
  body_safe face d n (given (suc c)) ts i = and_then (enclosed_safe _ (facing_safe (suc c)) n ts i) λ _ us _ j. safe tt j

  -- ---- headers
  fifth_safe : (b : Bool) → Safely (λ (v : Word). v.at ≤ size) (fifth_of size b)
  unfolding fifth_of
  fifth_safe b ts i = chosen (b && starts_right ts) (λ _. let p : 0 ≤ size = omega arith in safe p i) λ _. and_then (hex_safe ts i) λ r us p j. safe p j

  pub record HeadIn (h : Head) : Type 0 where
    pub zone : Placed h.zone
    pub first : Placed h.first
    pub type : Placed h.type
    pub fifth : h.fifth_at ≤ size
    pub end : h.end ≤ size

  pub head_safe : (k : Kind) → Safely HeadIn (head_of size k)
  unfolding head_of
  head_safe k ts i =
      and_then (left_safe ts i) λ _ t₀ _ i₀. and_then (hex_safe t₀ i₀) λ z t₁ pz i₁. and_then (hex_safe t₁ i₁) λ f t₂ pf i₂.
      and_then (hex_safe t₂ i₂) λ l t₃ _ i₃. and_then (hex_safe t₃ i₃) λ t t₄ pt i₄.
      and_then (fifth_safe _ t₄ i₄) λ v t₅ pv i₅. and_then (right_safe t₅ i₅) λ e us pe i₆.
      safe (record { zone = pz; first = pf; type = pt; fifth = pv; end = pe }) i₆
