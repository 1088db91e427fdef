-- Bytes side by side in one number, the first lowest, and digits among them. No mesher need read it: only contracts of functions that look at eight bytes at once cite it, none of reading. Assumes nothing.
use Rattle.std.specs.Prelude.{ℕ, zero, ◌+◌, ◌*◌, ◌/◌, ◌^◌, ◌≤◌, ◌<◌, ◌≡◌, List, [], ◌∷◌, length}
use Rattle.std.specs.Int.Bits.{bit_and, bit_or, bit_xor}
use Rattle.digits.specs.declared.group.Base.{Base}
use Rattle.digits.specs.declared.group.Group.{Group}
use Rattle.digits.specs.Digits.{Digits, digits_in}

-- lanes of k bits
unfoldable pub lanes : ℕ → List ℕ → ℕ
lanes k [] = zero
lanes k (b ∷ w) = lanes k w * 2 ^ k + b

-- each is below n
abbrev pub Under : ℕ → List ℕ → Type 0
Under n [] = Unit
Under n (b ∷ w) = (b < n) × Under n w

-- the number holds these bytes
pub record Laned (w : List ℕ) (x : ℕ) : Type 0 where
  pub same : x ≡ lanes 8 w
  pub bytes : Under 256 w

-- ---- what the code computes in all lanes at once

-- the highest bit of a lane below 128 is set where a figure stands
abbrev pub figures_of : ℕ → ℕ
figures_of low = bit_xor (low + 0x5050505050505050) (low + 0x4646464646464646)

-- the same for a letter from `a` to `f`, in either case
abbrev pub letters_of : ℕ → ℕ
letters_of low = bit_xor (bit_or low 0x2020202020202020 + 0x1f1f1f1f1f1f1f1f) (bit_or low 0x2020202020202020 + 0x1919191919191919)

abbrev pub shown_of : Base → ℕ → ℕ
shown_of base low = elim base [ Base.Sixteen ↦ bit_or (figures_of low) (letters_of low) | Base.Ten ↦ figures_of low ]

-- the highest bit of each lane in which no digit stands
abbrev pub marks_of : Base → ℕ → ℕ
marks_of base x =
    bit_or (bit_xor (bit_and (shown_of base (bit_and x 0x7f7f7f7f7f7f7f7f)) 0x8080808080808080) 0x8080808080808080)
    (bit_and x 0x8080808080808080)

-- the value of the digit in each lane
abbrev pub values_of : Base → ℕ → ℕ
values_of base x =
    elim base [
      | Base.Sixteen ↦ bit_and x 0x0f0f0f0f0f0f0f0f + bit_and x 0x4040404040404040 / 64 * 9
      | Base.Ten ↦ bit_and x 0x0f0f0f0f0f0f0f0f
    ]

-- the highest bit of each lane that is unlike c's
abbrev pub unlike_of : ℕ → ℕ → ℕ
unlike_of x c = bit_or (bit_and (bit_xor x c) 0x7f7f7f7f7f7f7f7f + 0x7f7f7f7f7f7f7f7f) (bit_xor x c)

-- neighbouring lanes as one number to the base b; `apart` is 2 to the bits of a lane
abbrev pub paired_of : ℕ → ℕ → ℕ → ℕ → ℕ
paired_of apart mask b y = bit_and y mask * b + bit_and (y / apart) mask

-- eight digits as one number
abbrev pub folded_of : ℕ → ℕ → ℕ
folded_of b y =
    paired_of 4294967296 0xffffffff (b * b * (b * b)) (paired_of 65536 0x0000ffff0000ffff (b * b) (paired_of 256 0x00ff00ff00ff00ff b y))

-- ---- what it is

abbrev pub base_of : Base → ℕ
base_of base = elim base [ Base.Sixteen ↦ 16 | Base.Ten ↦ 10 ]

abbrev pub group_by : Digits → Group
group_by d = record { value = d.value; count = d.count }

-- the digits at the start of at most eight bytes
pub record Grouped (base : Base) (x : ℕ) (r : Group) : Type 0 where
  pub says : (w : List ℕ) → Laned w x → length w ≤ 8 → r ≡ group_by (digits_in (base_of base) 0 0 w)
