-- [01:Tokens], whole numbers: digits to a base. To be believed: all of this file. Assumes nothing.
use Rattle.std.specs.Prelude.{ℕ, suc, ◌+◌, ◌-◌, ◌*◌, ◌<◌, List, [], ◌∷◌, Bool, true, false, ◌&&◌, ltb, leb}

abbrev pub within : ℕ → ℕ → ℕ → Bool
within low high b = leb low b && leb b high

-- "either case": the value of `0` to `9`, `A` to `F`, `a` to `f`, and 16 for a byte that is no digit
unfoldable pub digit_of : ℕ → ℕ
digit_of b =
    elim (within 48 57 b) [
      | true ↦ b - 48
      | false ↦ elim (within 65 70 b) [ true ↦ b - 55 | false ↦ elim (within 97 102 b) [ true ↦ b - 87 | false ↦ 16 ] ]
    ]

-- digits at the start of some bytes: the number that they write, how many they are, and the bytes behind them
pub record Digits : Type 0 where
  pub value : ℕ
  pub count : ℕ
  pub rest : List ℕ

abbrev pub digits : ℕ → ℕ → List ℕ → Digits
digits v n r = record { value = v; count = n; rest = r }

-- all digits to the base at the start of the bytes, behind n digits that write v
unfoldable pub digits_in : ℕ → ℕ → ℕ → List ℕ → Digits
digits_in base v n [] = digits v n []
digits_in base v n (b ∷ w) = elim (ltb (digit_of b) base) [ true ↦ digits_in base (v * base + digit_of b) (suc n) w | false ↦ digits v n (b ∷ w) ]

-- every byte is a digit to the base
abbrev pub Figures : ℕ → List ℕ → Type 0
Figures base [] = Unit
Figures base (b ∷ w) = (digit_of b < base) × Figures base w

-- the number that digits write, behind a number v
abbrev pub worth : ℕ → ℕ → List ℕ → ℕ
worth base v [] = v
worth base v (b ∷ w) = worth base (v * base + digit_of b) w
