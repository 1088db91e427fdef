-- [01:Refusal numbers], "Then tokens left to right". Readers: from the tokens ahead to a thing and the tokens behind it, or a refusal and its offset. Assumes nothing.
use Rattle.std.specs.Prelude.{ℕ, zero, suc, ◌+◌, List, [], ◌∷◌, Bool, true, false, ltb, Option, Some, None}
use Rattle.sizes.specs.Sizes.{depth}
use Rattle.tokens.specs.Listed.{Tok, left, right, text, cut, word}
use Rattle.decimals.specs.declared.decimal.Decimal.{Decimal}
use Rattle.numbers.specs.declared.sort.Sort.{Sort}
use Rattle.numbers.specs.Whole.{hexadecimal_of, section_id_of}
use Rattle.decimals.specs.Coordinate.{coordinate_of}
use Rattle.numbers.specs.Bad.{bad_at}
use Rattle.layout.specs.declared.Refusal.{Refusal}
use Rattle.layout.specs.Items.{Pair}

pub data Got (A : Type 0) : Type 0 where
  got : A → List Tok → Got A
  bad : Refusal → ℕ → Got A

abbrev pub Reader : Type 0 → Type 0
Reader A = List Tok → Got A

abbrev pub next : {A B : Type 0} → Got A → (A → Reader B) → Got B
next (got a ts) f = f a ts
next (bad w o) f = bad w o

abbrev pub ◌>>=◌ : {A B : Type 0} → Reader A → (A → Reader B) → Reader B
◌>>=◌ m f = λ ts. next (m ts) f

abbrev pub ◌>>◌ : {A B : Type 0} → Reader A → Reader B → Reader B
◌>>◌ m k = λ ts. next (m ts) (λ _. k)

abbrev pub pure : {A : Type 0} → A → Reader A
pure a = λ ts. got a ts

-- go on where the test holds
abbrev pub check : {A : Type 0} → Bool → Refusal → ℕ → Reader A → Reader A
check b w o k = λ ts. elim b [ true ↦ k ts | false ↦ bad w o ]

abbrev pub choose : {A : Type 0} → Bool → Reader A → Reader A → Reader A
choose b k m = λ ts. elim b [ true ↦ k ts | false ↦ m ts ]

-- a number and the offset of its word
pub record Read : Type 0 where
  pub value : ℕ
  pub at : ℕ

-- "Grammar: token of the wrong sort for its place"; `size` is the offset of the end of the file
module _ (size : ℕ) where
  unfoldable pub left_of : Reader Unit
  left_of [] = bad Refusal.Grammar size
  left_of (left o ∷ ts) = got tt ts
  left_of (right o ∷ ts) = bad Refusal.Grammar o
  left_of (text o ∷ ts) = bad Refusal.Grammar o
  left_of (cut o ∷ ts) = bad Refusal.Grammar o
  left_of (word o w ∷ ts) = bad Refusal.Grammar o

  -- with its offset
  unfoldable pub right_of : Reader ℕ
  right_of [] = bad Refusal.Grammar size
  right_of (left o ∷ ts) = bad Refusal.Grammar o
  right_of (right o ∷ ts) = got o ts
  right_of (text o ∷ ts) = bad Refusal.Grammar o
  right_of (cut o ∷ ts) = bad Refusal.Grammar o
  right_of (word o w ∷ ts) = bad Refusal.Grammar o

  -- a word, read by f
  unfoldable pub word_of : {A : Type 0} → (ℕ → List ℕ → Reader A) → Reader A
  word_of f [] = bad Refusal.Grammar size
  word_of f (left o ∷ ts) = bad Refusal.Grammar o
  word_of f (right o ∷ ts) = bad Refusal.Grammar o
  word_of f (text o ∷ ts) = bad Refusal.Grammar o
  word_of f (cut o ∷ ts) = bad Refusal.Grammar o
  word_of f (word o w ∷ ts) = f o w ts

  -- "Number: word is not a number of its sort"
  abbrev pub numbered : Sort → Option ℕ → ℕ → List ℕ → Reader Read
  numbered k (Some v) o w ts = got (record { value = v; at = o }) ts
  numbered k None o w ts = bad Refusal.Number (o + bad_at k w)

  abbrev pub paired : Option Decimal → ℕ → List ℕ → Reader Pair
  paired (Some d) o w ts = got (record { mantissa = d.mantissa; exponent = d.exponent }) ts
  paired None o w ts = bad Refusal.Number (o + bad_at Sort.Coordinate w)

  abbrev pub number_by : (List ℕ → Option ℕ) → Sort → Reader Read
  number_by f k = word_of (λ o w. numbered k (f w) o w)

  abbrev pub id_word : Reader Read
  id_word = number_by section_id_of Sort.SectionId

  abbrev pub hex_word : Reader Read
  hex_word = number_by hexadecimal_of Sort.Hexadecimal

  abbrev pub pair_word : Reader Pair
  pair_word = word_of (λ o w. paired (coordinate_of w) o w)

  -- "Depth: depth 65": the rest of a section that is stepped over, d parentheses deep in it
  unfoldable pub skip : ℕ → Reader Unit
  skip d [] = bad Refusal.Grammar size
  skip d (left o ∷ ts) = elim (ltb (suc d) depth) [ true ↦ skip (suc d) ts | false ↦ bad Refusal.Depth o ]
  skip zero (right o ∷ ts) = got tt ts
  skip (suc d) (right o ∷ ts) = skip d ts
  skip d (text o ∷ ts) = skip d ts
  skip d (cut o ∷ ts) = bad Refusal.Grammar o
  skip d (word o w ∷ ts) = skip d ts

  -- n things one behind the other
  unfoldable pub rows_of : {A : Type 0} → Reader A → ℕ → Reader (List A)
  rows_of r zero = pure []
  rows_of r (suc n) = do
    a ← r
    xs ← rows_of r n
    pure (a ∷ xs)

  abbrev pub enclosed_of : {A : Type 0} → Reader A → ℕ → Reader (List A)
  enclosed_of r n = do
    left_of
    xs ← rows_of r n
    right_of
    pure xs
