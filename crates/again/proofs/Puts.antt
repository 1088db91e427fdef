-- Words stored one behind the other, rows padded and joined. Assumes nothing.
use Prim.Native.Nat.{ℕ, zero, suc, ◌+◌, ◌-◌, ◌≤◌}
use native.Mathlib.Omega.{arith}
use mathlib.Core.Path.{◌≡◌, refl, ◌∙◌, ap}
use mathlib.Core.List.{List, [], ◌∷◌, ◌++◌, map}
use lib.ListN.{length, take, replicate}
use lib.Seq.{sets}
use Rattle.facts.proofs.Maps.{map_append}
use Rattle.facts.proofs.Sets.{sets_append}
use Rattle.layout.specs.Rows.{joined, pad}

module _ {A : Type 0} where
  -- the seam given by an equation
  pub sets_behind : (xs ys l : List A) (k j : ℕ) → j ≡ k + length xs → sets (sets l k xs) j ys ≡ sets l k (xs ++ ys)
  sets_behind xs ys l k j e = ap (λ i. sets (sets l k xs) i ys) e ∙ sets_append xs ys l k

  take_zeros : (d : A) (n m : ℕ) → n ≤ m → take n (replicate m d) ≡ replicate n d
  take_zeros d zero m h = refl
  take_zeros d (suc n) zero h = absurd (omega arith)
  take_zeros d (suc n) (suc m) h = ap (λ r. d ∷ r) (take_zeros d n m (omega arith))

  pad_from : (d : A) (xs : List A) (n m : ℕ) → length xs ≤ n → n ≤ m → take n (xs ++ replicate m d) ≡ xs ++ replicate (n - length xs) d
  pad_from d [] n m h l = take_zeros d n m l ∙ (let z : n - 0 ≡ n = omega arith in rw z)
  pad_from d (x ∷ xs) zero m h l = absurd (omega arith)
  pad_from d (x ∷ xs) (suc n) m h l =
      let z : suc n - suc (length xs) ≡ n - length xs = omega arith in rw z (ap (λ r. x ∷ r) (pad_from d xs n m (omega arith) (omega arith)))

  pub pad_is : (n : ℕ) (d : A) (xs : List A) → length xs ≤ n → pad n d xs ≡ xs ++ replicate (n - length xs) d
  pad_is n d xs h = pad_from d xs n n h (omega arith)

  -- rows of one word
  pub singles : (xs : List A) → joined (map (λ v. v ∷ []) xs) ≡ xs
  singles [] = refl
  singles (x ∷ xs) = ap (λ r. x ∷ r) (singles xs)

  -- rows as they are
  pub joined_same : (xs : List (List A)) → joined (map (λ row. row) xs) ≡ joined xs
  joined_same [] = refl
  joined_same (x ∷ xs) = ap (λ r. x ++ r) (joined_same xs)

  pub repeated : (a : A) (n : ℕ) → joined (replicate n (a ∷ [])) ≡ replicate n a
  repeated a zero = refl
  repeated a (suc n) = ap (λ r. a ∷ r) (repeated a n)

-- ---- lists
module _ {A B : Type 0} (f : A → B) where
  pub map_replicate : (n : ℕ) (a : A) → map f (replicate n a) ≡ replicate n (f a)
  map_replicate zero a = refl
  map_replicate (suc n) a = ap (λ r. f a ∷ r) (map_replicate n a)

  map_take : (n : ℕ) (xs : List A) → map f (take n xs) ≡ take n (map f xs)
  map_take zero xs = refl
  map_take (suc n) [] = refl
  map_take (suc n) (x ∷ xs) = ap (λ r. f x ∷ r) (map_take n xs)

  map_pad : (n : ℕ) (d : A) (xs : List A) → map f (pad n d xs) ≡ pad n (f d) (map f xs)
  map_pad n d xs = map_take n (xs ++ replicate n d) ∙ ap (take n) (map_append f xs (replicate n d) ∙ ap (λ r. map f xs ++ r) (map_replicate n d))

  -- padded rows, one behind the other
  pub map_joined : (n : ℕ) (d : A) (rs : List (List A)) → map f (joined (map (pad n d) rs)) ≡ joined (map (λ r. pad n (f d) (map f r)) rs)
  map_joined n d [] = refl
  map_joined n d (r ∷ rs) =
      map_append f (pad n d r) (joined (map (pad n d) rs)) ∙ ap (λ y. y ++ map f (joined (map (pad n d) rs))) (map_pad n d r)
      ∙ ap (λ y. pad n (f d) (map f r) ++ y) (map_joined n d rs)
