-- [02:M-101], "each coordinate as decimal mantissa, `e`, exponent, no `+`". To be believed: all of this file. Assumes nothing.
use Rattle.std.specs.Prelude.{ℕ, List, [], ◌∷◌, ◌++◌, ℤ, pos, negsuc, nat_abs}
use Rattle.figures.specs.Figures.{figures}

abbrev pub sign_text : ℤ → List ℕ
sign_text (pos n) = []
sign_text (negsuc n) = 45 ∷ []

unfoldable pub decimal_text : ℤ → List ℕ
decimal_text z = sign_text z ++ figures 10 (nat_abs z)

unfoldable pub coordinate_text : ℤ → ℤ → List ℕ
coordinate_text m e = decimal_text m ++ (101 ∷ decimal_text e)
