-- Laws of the digits at the start of some bytes. Assumes nothing.
use Prim.Native.Nat.{ℕ, suc, ◌+◌, ◌*◌, ◌^◌, ◌≤◌, ◌<◌}
use native.Mathlib.Nat.{pow-suc}
use native.Mathlib.Omega.{arith}
use mathlib.Core.Path.{◌≡◌, refl, ap, subst, ◌∙◌}
use mathlib.Core.List.{List, [], ◌∷◌, ◌++◌}
use mathlib.Core.Bool.{Bool, true, false, ◌&&◌}
use borrow.Author.Tests.{lt-ltb, ltb-true, leb-true}
use lib.Arith.{digits_lt}
use lib.Dec.{ltb, leb}
use lib.ListN.{length}
use Rattle.facts.proofs.Branch.{either, both, differ}
use Rattle.digits.specs.Digits.{within, digit_of, Digits, digits, digits_in, Figures, worth}

pub and_left : (a b : Bool) → (a && b) ≡ true → a ≡ true
and_left true b p = refl
and_left false b p = p

pub and_right : (a b : Bool) → (a && b) ≡ true → b ≡ true
and_right true b p = p
and_right false b p = differ false p refl

pub within_is : (low high b : ℕ) → within low high b ≡ true → (low ≤ b) × (b ≤ high)
within_is low high b p = (leb-true _ _ (and_left (leb low b) _ p), leb-true _ _ (and_right (leb low b) _ p))

-- a decimal digit is one of the bytes 48 to 57
pub decimal_byte : (b : ℕ) → digit_of b < 10 → (48 ≤ b) × (b ≤ 57)
unfolding digit_of
decimal_byte b =
    either Goal (within 48 57 b) (λ p _. within_is 48 57 b p)
    (λ _. either Goal (within 65 70 b) (λ p h. absurd (omega (arith, within_is 65 70 b p)))
    (λ _. either Goal (within 97 102 b) (λ p h. absurd (omega (arith, within_is 97 102 b p))) (λ _ h. absurd (omega arith))))
  where
    Goal : ℕ → Type 0
    Goal d = d < 10 → (48 ≤ b) × (b ≤ 57)

-- the first byte, where there is one
abbrev pub Begins : (ℕ → Type 0) → List ℕ → Type 0
Begins P [] = Unit
Begins P (b ∷ r) = P b

module _ (base : ℕ) where
  -- n digits write a number below base ^ n
  pub digits_in_below : (w : List ℕ) (v n : ℕ) → v < base ^ n → (digits_in base v n w).value < base ^ (digits_in base v n w).count
  unfolding digits_in
  digits_in_below [] v n h = h
  digits_in_below (b ∷ w) v n h =
      either (λ (d : Digits). d.value < base ^ d.count) (ltb (digit_of b) base)
      (λ p. digits_in_below w _ (suc n) (rw pow-suc (digits_lt h (ltb-true _ _ p)))) (λ _. h)

  -- what was read before the digits changes neither their number nor what stands behind them
  abbrev pub Alike : ℕ → ℕ → Digits → Digits → Type 0
  Alike n m d e = (d.count + m ≡ e.count + n) × (d.rest ≡ e.rest)

  pub digits_in_alike : (w : List ℕ) (v u n m : ℕ) → Alike n m (digits_in base v n w) (digits_in base u m w)
  unfolding digits_in
  digits_in_alike [] v u n m = (omega arith, refl)
  digits_in_alike (b ∷ w) v u n m =
      both (Alike n m) (ltb (digit_of b) base)
      (λ _. let a = digits_in_alike w (v * base + digit_of b) (u * base + digit_of b) (suc n) (suc m) in (omega (arith, a.0), a.1)) (λ _. (omega arith, refl))

  digits_in_value : (w : List ℕ) (v n m : ℕ) → (digits_in base v n w).value ≡ (digits_in base v m w).value
  unfolding digits_in
  digits_in_value [] v n m = refl
  digits_in_value (b ∷ w) v n m =
      both (λ (d e : Digits). d.value ≡ e.value) (ltb (digit_of b) base) (λ _. digits_in_value w _ (suc n) (suc m)) (λ _. refl)

  -- behind k digits that write v they write a number below base ^ (k + how many they are)
  pub digits_in_after : (w : List ℕ) (v k : ℕ) → v < base ^ k → (digits_in base v 0 w).value < base ^ (k + (digits_in base v 0 w).count)
  digits_in_after w v k h =
      let c : (digits_in base v k w).count ≡ k + (digits_in base v 0 w).count = omega (arith, (digits_in_alike w v v k 0).0) in
      subst (λ n. (digits_in base v 0 w).value < base ^ n) c (subst (λ d. d < base ^ (digits_in base v k w).count) (digits_in_value w v k 0) (digits_in_below w v k h))

  abbrev pub NoDigit : ℕ → Type 0
  NoDigit b = ltb (digit_of b) base ≡ false

  -- no digit stands behind them
  pub digits_in_stops : (w : List ℕ) (v n : ℕ) → Begins NoDigit (digits_in base v n w).rest
  unfolding digits_in
  digits_in_stops [] v n = tt
  digits_in_stops (b ∷ w) v n =
      either (λ (d : Digits). Begins NoDigit d.rest) (ltb (digit_of b) base) (λ _. digits_in_stops w _ (suc n)) (λ p. p)

  -- digits and then something else: all of the digits are read
  pub digits_in_exact : (a r : List ℕ) (v n : ℕ) → Figures base a → Begins NoDigit r
      → digits_in base v n (a ++ r) ≡ digits (worth base v a) (n + length a) r
  unfolding digits_in
  digits_in_exact [] [] v n d s = let z : n ≡ n + 0 = omega arith in ap (λ k. digits v k []) z
  digits_in_exact [] (b ∷ r) v n d s = let z : n ≡ n + 0 = omega arith in rw (s, digits_in) (ap (λ k. digits v k (b ∷ r)) z)
  digits_in_exact (b ∷ a) r v n d s =
      let z : suc n + length a ≡ n + suc (length a) = omega arith in
      rw (lt-ltb _ base d.0, digits_in) (digits_in_exact a r _ (suc n) d.1 s ∙ ap (λ k. digits (worth base v (b ∷ a)) k r) z)

  -- and what is read is such a part of the bytes
  pub record Run (w : List ℕ) (v n : ℕ) (d : Digits) : Type 0 where
    pub run : List ℕ
    pub parted : w ≡ run ++ d.rest
    pub figures : Figures base run
    pub value : d.value ≡ worth base v run
    pub count : d.count ≡ n + length run

  no_run : (w : List ℕ) (v n : ℕ) → Run w v n (digits v n w)
  no_run w v n = record { run = []; parted = refl; figures = tt; value = refl; count = omega arith }

  longer_run : (b : ℕ) (w : List ℕ) (v n : ℕ) (d : Digits) → digit_of b < base → Run w (v * base + digit_of b) (suc n) d → Run (b ∷ w) v n d
  longer_run b w v n d h r =
      record { run = b ∷ r.run; parted = ap (λ l. b ∷ l) r.parted; figures = (h, r.figures); value = r.value; count = omega (arith, r.count) }

  pub digits_in_part : (w : List ℕ) (v n : ℕ) → Run w v n (digits_in base v n w)
  unfolding digits_in
  digits_in_part [] v n = no_run [] v n
  digits_in_part (b ∷ w) v n =
      either (Run (b ∷ w) v n) (ltb (digit_of b) base)
      (λ p. longer_run b w v n _ (ltb-true _ _ p) (digits_in_part w _ (suc n))) (λ _. no_run (b ∷ w) v n)

  pub worth_append : (a b : List ℕ) (v : ℕ) → worth base v (a ++ b) ≡ worth base (worth base v a) b
  worth_append [] b v = refl
  worth_append (c ∷ a) b v = worth_append a b _

  pub figures_append : (a b : List ℕ) → Figures base a → Figures base b → Figures base (a ++ b)
  figures_append [] b p q = q
  figures_append (c ∷ a) b p q = (p.0, figures_append a b p.1 q)

  pub figures_left : (a b : List ℕ) → Figures base (a ++ b) → Figures base a
  figures_left [] b p = tt
  figures_left (c ∷ a) b p = (p.0, figures_left a b p.1)

  pub figures_right : (a b : List ℕ) → Figures base (a ++ b) → Figures base b
  figures_right [] b p = p
  figures_right (c ∷ a) b p = figures_right a b p.1

  -- digits that end among some bytes are the same whatever stands behind these bytes
  pub digits_in_within : (u t : List ℕ) (v n : ℕ) → (digits_in base v n u).count < n + length u → ((digits_in base v n (u ++ t)).value ≡ (digits_in base v n u).value) × ((digits_in base v n (u ++ t)).count ≡ (digits_in base v n u).count)
  unfolding digits_in
  digits_in_within [] t v n = λ h. absurd (omega (arith, h))
  digits_in_within (b ∷ u) t v n =
      both (λ (d e : Digits). e.count < n + suc (length u) → (d.value ≡ e.value) × (d.count ≡ e.count)) (ltb (digit_of b) base)
      (λ _ h. digits_in_within u t (v * base + digit_of b) (suc n) (omega (arith, h))) (λ _ h. (refl, refl))
