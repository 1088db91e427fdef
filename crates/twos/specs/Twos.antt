-- Two hexadecimal words behind one blank each, found in one look at eight bytes. No mesher need read it: it is a step of the code, and `says` tells what is found in the words of Quick. Assumes nothing.
use Rattle.std.specs.Prelude.{ℕ, ◌+◌, ◌^◌, ◌≤◌, ◌<◌, ◌≡◌, List, true, false, ◌&&◌, leb, length, take, drop, get_or, Option, Some, None}
use Rattle.tokens.specs.Tokens.{is_blank}
use Rattle.digits.specs.declared.couple.Couple.{Couple}
use Rattle.digits.specs.Lanes.{lanes}
use Rattle.digits.specs.Couples.{couple_of}
use Rattle.twos.specs.declared.Two.{Two}
use Rattle.quick.specs.Quick.{known_of}

abbrev pub two : ℕ → ℕ → ℕ → Option Two
two f v n = Some (record { first = f; second = v; next = n })

-- the first number stands at i; the byte between the two has to be a blank
abbrev pub two_by : List ℕ → ℕ → Option Couple → Option Two
two_by s i (Some c) = elim (is_blank (get_or s (i + c.gap) 0)) [ true ↦ two c.first c.second (i + c.end) | false ↦ None ]
two_by s i None = None

unfoldable pub two_of : List ℕ → ℕ → Option Two
two_of s at =
    elim (leb (at + 9) (length s) && is_blank (get_or s at 0)) [
      | true ↦ two_by s (at + 1) (couple_of (lanes 8 (take 8 (drop (at + 1) s))))
      | false ↦ None
    ]

-- both stand in the file and are small
abbrev pub Inside : List ℕ → ℕ → Couple → Type 0
Inside s i c = (i + 8 ≤ length s) × (c.gap ≤ 7) × (c.end ≤ 7) × (c.first < 2 ^ 32) × (c.second < 2 ^ 32)

-- the word there, and the word behind it
abbrev pub TwoSays : List ℕ → ℕ → Option Two → Type 0
TwoSays s at (Some t) = (m : ℕ) × (known_of s at ≡ record { value = t.first; next = m }) × (known_of s m ≡ record { value = t.second; next = t.next })
TwoSays s at None = Unit

pub record TwoAt (s : List ℕ) (at : ℕ) (r : Option Two) : Type 0 where
  pub same : r ≡ two_of s at
  pub says : TwoSays s at r
