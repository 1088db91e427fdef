-- [01:Tokens], coordinates: what a word means, with no computation. To be believed: all of this file. Assumes nothing.
use Rattle.std.specs.Prelude.{ℕ, ◌+◌, ◌%◌, ◌^◌, ◌≤◌, ◌<◌, ◌≡◌, ◌⊎◌, List, [], ◌∷◌, ◌++◌, Bool, true, false, length, ℤ, pos, negsuc, nat_abs, ◌+ℤ◌, ◌*ℤ◌}
use Rattle.std.specs.Int.Signed.{le_z}
use Rattle.sizes.specs.Sizes.{coordinate_bytes, coordinate_digits}
use Rattle.digits.specs.Digits.{Figures, worth}
use Rattle.decimals.specs.Coordinate.{Parts, parts_of, sign_of}

-- "optional sign (`+` or `-`)"
pub data SignText : List ℕ → Bool → Type 0 where
  unsigned : SignText [] false
  plus : SignText (43 ∷ []) false
  minus : SignText (45 ∷ []) true

-- "digits with at most one point": the text, the digits before the point and those behind it
pub data PointText : List ℕ → List ℕ → List ℕ → Type 0 where
  plain : {a : List ℕ} → PointText a a []
  pointed : {a b : List ℕ} → PointText (a ++ (46 ∷ b)) a b

-- "optionally `e` or `E`, an optional sign and 1 to 3 digits"
pub data PowerText : List ℕ → ℤ → Type 0 where
  unpowered : PowerText [] (pos 0)
  powered : {e : ℕ} {n : Bool} (s d : List ℕ) → (e ≡ 101) ⊎ (e ≡ 69) → SignText s n → Figures 10 d → 1 ≤ length d → length d ≤ 3
      → PowerText (e ∷ (s ++ d)) (sign_of n (worth 10 0 d))

-- the word is a sign, digits with at most one point, at least one of them, and a power, and says these parts
pub record Written (w : List ℕ) (p : Parts) : Type 0 where
  pub sign : List ℕ
  pub text : List ℕ
  pub power : List ℕ
  pub before : List ℕ
  pub behind : List ℕ
  pub negative : Bool
  pub tens : ℤ
  pub whole : w ≡ sign ++ (text ++ power)
  pub signs : SignText sign negative
  pub points : PointText text before behind
  pub powers : PowerText power tens
  pub digits : Figures 10 (before ++ behind)
  pub some : 1 ≤ length before + length behind
  pub says : p ≡ parts_of negative (worth 10 0 (before ++ behind)) (length behind) tens

-- m · 10 ^ e and m' · 10 ^ e': times a power of ten that makes both exponents natural, they are one integer
pub record SameValue (m e m' e' : ℤ) : Type 0 where
  pub shift : ℕ
  pub left : ℕ
  pub right : ℕ
  pub left_is : e +ℤ pos shift ≡ pos left
  pub right_is : e' +ℤ pos shift ≡ pos right
  pub same : m *ℤ pos (10 ^ left) ≡ m' *ℤ pos (10 ^ right)

-- "The mantissa is not divisible by ten; any zero, `-0` also, is mantissa 0, exponent 0. After leading and trailing zeros are
-- dropped at most 18 digits may stand. For a value other than zero the kept exponent lies from −400 to 400."
pub record Canonical (m e : ℤ) : Type 0 where
  pub zero_is : m ≡ pos 0 → e ≡ pos 0
  pub ends : (m ≡ pos 0 → ⊥) → nat_abs m % 10 ≡ 0 → ⊥
  pub few : nat_abs m < 10 ^ coordinate_digits
  pub low : le_z (negsuc 399) e ≡ true
  pub high : le_z e (pos 400) ≡ true

-- the word is a coordinate whose kept pair is m, e
pub record Means (w : List ℕ) (m e : ℤ) : Type 0 where
  pub short : length w ≤ coordinate_bytes
  pub parts : Parts
  pub written : Written w parts
  pub value : SameValue m e (sign_of parts.negative parts.digits) parts.exponent
  pub canonical : Canonical m e
