-- Things taken one behind the other are those that are read, and rows stored as they are taken: what the loops keep. Once for words and for pairs. Assumes nothing.
use Prim.Native.Nat.{ℕ, zero, suc, ◌+◌, ◌≤◌}
use native.Mathlib.Omega.{arith}
use mathlib.Core.Path.{◌≡◌, refl, sym, ◌∙◌, ap, subst}
use mathlib.Core.List.{List, [], ◌∷◌, ◌++◌, map}
use lib.ListN.{length, replicate}
use Rattle.tokens.specs.Listed.{Tok}
use Rattle.layout.specs.Rows.{joined}
use Rattle.layout.specs.Reading.{Reader, pure, rows_of}
use Rattle.again.specs.Again.{Then, Taken, many, Takes}
use Rattle.again.proofs.Then.{then_next}
use Rattle.again.proofs.Puts.{singles, joined_same}

pub many_takes : {P A : Type 0} (view : P → List Tok) (f : P → Taken P A) (r : Reader A) (size : ℕ) → Takes view f r → (n : ℕ) → Takes view (many f n) (rows_of size r n)
unfolding rows_of many
many_takes view f r size h zero p = (refl, refl)
many_takes view f r size h (suc n) p =
    let rest = many f n (f p).next in
    then_next (r (view p)) _ (λ xs us. ((f p).thing ∷ rest.thing ≡ xs) × (view rest.next ≡ us)) (h p)
    (λ a us q. then_next (rows_of size r n us) (λ xs. pure (a ∷ xs)) (λ xs vs. ((f p).thing ∷ rest.thing ≡ xs) × (view rest.next ≡ vs))
    (subst (λ vs. Then (rows_of size r n vs) (λ xs ws. (rest.thing ≡ xs) × (view rest.next ≡ ws))) q.1 (many_takes view f r size h n (f p).next))
    (λ xs vs y. (λ i. q.0 i ∷ y.0 i, y.1)))

pub many_length : {P A : Type 0} (f : P → Taken P A) (n : ℕ) (p : P) → length (many f n p).thing ≡ n
unfolding many
many_length f zero p = refl
many_length f (suc n) p = ap suc (many_length f n (f p).next)

-- ---- stored one behind the other
module _ {S W : Type 0} (put : S → ℕ → List W → S) where
  -- whatever is left is stored from place i on, as all of it was to be from place k on
  pub record Going {P A : Type 0} (f : P → Taken P A) (words : A → List W) (p₀ : P) (n k : ℕ) (old : S) (p : P) (left i : ℕ) (cur : S) : Type 0 where
    pub same : put cur i (joined (map words (many f left p).thing)) ≡ put old k (joined (map words (many f n p₀).thing))
    pub ends : (many f left p).next ≡ (many f n p₀).next

  -- the same row again and again
  pub record Repeating (row : List W) (n k : ℕ) (old : S) (left i : ℕ) (cur : S) : Type 0 where
    pub same : put cur i (joined (replicate left row)) ≡ put old k (joined (replicate n row))

  module _ (none : (o : S) (k : ℕ) → put o k [] ≡ o)
      (append : (xs ys : List W) (o : S) (k j : ℕ) → j ≡ k + length xs → put (put o k xs) j ys ≡ put o k (xs ++ ys)) where
    module _ (row : List W) (n k : ℕ) (old : S) where
      pub repeat_start : (left i : ℕ) → left ≡ n → i ≡ k → Repeating row n k old left i old
      repeat_start left i e l = record { same = ap (λ m. put old i (joined (replicate m row))) e ∙ ap (λ j. put old j (joined (replicate n row))) l }

      module _ (left i : ℕ) (cur : S) (g : Repeating row n k old left i cur) where
        pub repeat_end : left ≤ 0 → cur ≡ put old k (joined (replicate n row))
        repeat_end l = let z : left ≡ 0 = omega arith in sym (none cur i) ∙ sym (ap (λ m. put cur i (joined (replicate m row))) z) ∙ g.same

        pub repeat_more : (left' i' : ℕ) (cur' : S) → left ≡ suc left' → i' ≡ i + length row → cur' ≡ put cur i row → Repeating row n k old left' i' cur'
        repeat_more left' i' cur' l e q =
            record { same = ap (λ y. put y i' (joined (replicate left' row))) q ∙ append row (joined (replicate left' row)) cur i i' e ∙ sym (ap (λ m. put cur i (joined (replicate m row))) l) ∙ g.same }

    module _ {P A : Type 0} (f : P → Taken P A) (words : A → List W) (p₀ : P) (n k : ℕ) (old : S) where
      pub going_start : (left i : ℕ) → left ≡ n → i ≡ k → Going f words p₀ n k old p₀ left i old
      going_start left i e l =
          record { same = ap (λ m. put old i (joined (map words (many f m p₀).thing))) e ∙ ap (λ j. put old j (joined (map words (many f n p₀).thing))) l; ends = ap (λ m. (many f m p₀).next) e }

      module _ (p : P) (left i : ℕ) (cur : S) (g : Going f words p₀ n k old p left i cur) where
        pub going_end : left ≤ 0 → (cur ≡ put old k (joined (map words (many f n p₀).thing))) × (p ≡ (many f n p₀).next)
        unfolding many
        going_end l =
            let z : left ≡ 0 = omega arith in
            (sym (none cur i) ∙ sym (ap (λ m. put cur i (joined (map words (many f m p).thing))) z) ∙ g.same, sym (ap (λ m. (many f m p).next) z) ∙ g.ends)

        pub going_more : (p' : P) (left' i' : ℕ) (cur' : S) → left ≡ suc left' → i' ≡ i + length (words (f p).thing) → p' ≡ (f p).next → cur' ≡ put cur i (words (f p).thing)
            → Going f words p₀ n k old p' left' i' cur'
        unfolding many
        going_more p' left' i' cur' l e a b =
            let rest = joined (map words (many f left' (f p).next).thing) in
            record {
              same = ap (λ q. put cur' i' (joined (map words (many f left' q).thing))) a ∙ ap (λ o. put o i' rest) b ∙ append (words (f p).thing) rest cur i i' e
                  ∙ sym (ap (λ m. put cur i (joined (map words (many f m p).thing))) l) ∙ g.same;
              ends = ap (λ q. (many f left' q).next) a ∙ sym (ap (λ m. (many f m p).next) l) ∙ g.ends;
            }

    -- things that are one word each
    module _ {P : Type 0} (f : P → Taken P W) (p₀ : P) (n k : ℕ) (old : S) (p : P) (left i : ℕ) (cur : S) (g : Going f (λ v. v ∷ []) p₀ n k old p left i cur) where
      pub single_more : (p' : P) (left' i' : ℕ) (cur' : S) → left ≡ suc left' → i' ≡ i + 1 → p' ≡ (many f 1 p).next → cur' ≡ put cur i (many f 1 p).thing → Going f (λ v. v ∷ []) p₀ n k old p' left' i' cur'
      unfolding many
      single_more p' left' i' cur' l e a b = going_more f (λ v. v ∷ []) p₀ n k old p left i cur g p' left' i' cur' l e a b

      pub single_end : left ≤ 0 → (cur ≡ put old k (many f n p₀).thing) × (p ≡ (many f n p₀).next)
      single_end l = let e = going_end f (λ v. v ∷ []) p₀ n k old p left i cur g l in (e.0 ∙ ap (put old k) (singles (many f n p₀).thing), e.1)

    -- things that are rows
    module _ {P : Type 0} (f : P → Taken P (List W)) (p₀ : P) (n k : ℕ) (old : S) (p : P) (left i : ℕ) (cur : S) (g : Going f (λ row. row) p₀ n k old p left i cur) where
      pub row_end : left ≤ 0 → cur ≡ put old k (joined (many f n p₀).thing)
      row_end l = (going_end f (λ row. row) p₀ n k old p left i cur g l).0 ∙ ap (put old k) (joined_same (many f n p₀).thing)
