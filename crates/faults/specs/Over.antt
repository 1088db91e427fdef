-- Lists and sums over a range of numbers. To be believed: all of this file. Assumes nothing.
use Rattle.std.specs.Prelude.{ℕ, zero, suc, ◌+◌, ◌*◌, Bool, false, ◌||◌, List, [], ◌∷◌, ◌++◌}

-- g i, g (i + 1), .., n lists joined
unfoldable pub each : {A : Type 0} → (ℕ → List A) → ℕ → ℕ → List A
each g i zero = []
each g i (suc n) = g i ++ each g (i + 1) n

-- g i, g (i + 1), .., n elements
unfoldable pub listed : {A : Type 0} → (ℕ → A) → ℕ → ℕ → List A
listed g i zero = []
listed g i (suc n) = g i ∷ listed g (i + 1) n

-- g i + g (i + 1) + .., n numbers
unfoldable pub sum_over : (ℕ → ℕ) → ℕ → ℕ → ℕ
sum_over g i zero = 0
sum_over g i (suc n) = g i + sum_over g (i + 1) n

-- g i, or g (i + 1), or .., n tests
unfoldable pub any_of : (ℕ → Bool) → ℕ → ℕ → Bool
any_of g i zero = false
any_of g i (suc n) = g i || any_of g (i + 1) n

-- the digits g i, g (i + 1), .., n of them to the base b, the lowest first
unfoldable pub packed : ℕ → (ℕ → ℕ) → ℕ → ℕ → ℕ
packed b g i zero = 0
packed b g i (suc n) = g i + b * packed b g (i + 1) n
