-- Bytes in blocks of eight, all of them digits and blanks: words counted by their ends. No mesher need read it: only the contract of a function that looks at eight bytes at once cites it, none of reading. Assumes nothing.
use Rattle.std.specs.Prelude.{ℕ, zero, suc, ◌+◌, ◌-◌, ◌*◌, ◌/◌, ◌%◌, ◌^◌, ◌≤◌, ◌≡◌, List, [], ◌∷◌, Bool, true, false, not, eqb, ltb, length, Option, Some, None}
use Rattle.std.specs.Int.Bits.{bit_and, bit_or, bit_xor}
use Rattle.std.specs.Int.Count.{ones, count_trailing_zeros, count_leading_zeros}
use Rattle.tokens.specs.Tokens.{is_blank}
use Rattle.digits.specs.declared.group.Base.{Base}
use Rattle.digits.specs.Digits.{digit_of}
use Rattle.digits.specs.Lanes.{Laned, marks_of, unlike_of}
use Rattle.blocks.specs.declared.block.Block.{Block}

-- ---- what the code computes in all lanes at once

-- the highest bit of each lane in which a blank stands
abbrev pub blanks_of : ℕ → ℕ
blanks_of x =
    bit_xor
    (bit_and (bit_and (bit_and (unlike_of x 0x2020202020202020) (unlike_of x 0x0a0a0a0a0a0a0a0a)) (unlike_of (bit_and x 0xfbfbfbfbfbfbfbfb) 0x0909090909090909)) 0x8080808080808080)
    0x8080808080808080

abbrev pub carry_of : ℕ → ℕ
carry_of zero = 0
carry_of (suc t) = 128

abbrev pub words_of : ℕ → ℕ → ℕ
words_of n t = ones (bit_and n (bit_or (bit_xor n 0x8080808080808080 * 2 ^ 8 % 2 ^ 64) (carry_of t)))

abbrev pub block : ℕ → ℕ → Option Block
block words tail = Some (record { words = words; tail = tail })

-- n has the highest bit of each lane in which no digit stands, b of each in which a blank stands: t digits before the block and those at its start are 8 at most
abbrev pub block_by : ℕ → ℕ → ℕ → Option Block
block_by n b t =
    elim (eqb n b) [
      | true ↦ elim (eqb n 0) [
        | true ↦ None
        | false ↦ elim (ltb (8 - count_trailing_zeros 64 n / 8) t) [ true ↦ None | false ↦ block (words_of n t) (count_leading_zeros 64 n / 8) ]
      ]
      | false ↦ None
    ]

abbrev pub block_of : ℕ → ℕ → Option Block
block_of x t = block_by (marks_of Base.Sixteen x) (blanks_of x) t

-- ---- what it is

abbrev pub is_hex : ℕ → Bool
is_hex b = ltb (digit_of b) 16

-- each byte is a digit or a blank
abbrev pub Plain : List ℕ → Type 0
Plain [] = Unit
Plain (b ∷ w) = (is_blank b ≡ not (is_hex b)) × Plain w

-- a word ends where one has begun
abbrev pub one : ℕ → ℕ
one zero = 0
one (suc t) = 1

-- behind t digits: how many words end, how many digits stand at the end, and no more than 8 one behind the other
abbrev pub ends : ℕ → List ℕ → ℕ
ends t [] = 0
ends t (b ∷ w) = elim (is_hex b) [ true ↦ ends (suc t) w | false ↦ one t + ends 0 w ]

abbrev pub tail : ℕ → List ℕ → ℕ
tail t [] = t
tail t (b ∷ w) = elim (is_hex b) [ true ↦ tail (suc t) w | false ↦ tail 0 w ]

abbrev pub Fair : ℕ → List ℕ → Type 0
Fair t [] = Unit
Fair t (b ∷ w) = elim (is_hex b) [ true ↦ (suc t ≤ 8) × Fair (suc t) w | false ↦ Fair 0 w ]

pub record Read (t : ℕ) (w : List ℕ) (n t' : ℕ) : Type 0 where
  pub plain : Plain w
  pub fair : Fair t w
  pub words : n ≡ ends t w
  pub last : t' ≡ tail t w

-- eight bytes, behind t digits
abbrev pub BlockIs : ℕ → ℕ → Option Block → Type 0
BlockIs x t (Some b) = (w : List ℕ) → Laned w x → length w ≡ 8 → Read t w b.words b.tail
BlockIs x t None = Unit
