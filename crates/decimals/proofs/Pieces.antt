-- The pieces of a coordinate word, sign, power and fraction: what is read of each is what is written there. Assumes nothing.
use Rattle.std.specs.Prelude.{Option, Some, None}
use Prim.Native.Nat.{ℕ, ◌<◌}
use native.Mathlib.Omega.{arith}
use mathlib.Core.Path.{◌≡◌, refl, sym, ap, ◌∙◌}
use mathlib.Core.Logic.{◌⊎◌, inl, inr}
use mathlib.Core.List.{List, [], ◌∷◌, ◌++◌, append-nil}
use mathlib.Core.Bool.{Bool, true, false, ◌||◌}
use borrow.Author.Tests.{ne_eqb, eqb-true}
use lib.Dec.{eqb}
use lib.IntN.{ℤ, pos}
use Rattle.facts.proofs.Branch.{either}
use Rattle.digits.specs.Digits.{digit_of, Digits, digits, Figures, worth}
use Rattle.numbers.specs.Whole.{whole_of}
use Rattle.decimals.specs.Coordinate.{sign_of, Signed, signed, sign_in, fraction_in, is_mark, power_by, marked_of, power_of}
use Rattle.decimals.specs.Value.{SignText, unsigned, plus, minus, PowerText, unpowered, powered}
use Rattle.digits.proofs.Digits.{Begins, decimal_byte, Run, digits_in_part}
use Rattle.numbers.proofs.Wholes.{whole_of_exact, whole_of_exactly}

-- ---- the first byte of what follows
abbrev pub NoSign : ℕ → Type 0
NoSign b = (eqb b 45 ≡ false) × (eqb b 43 ≡ false)

abbrev pub NoPoint : ℕ → Type 0
NoPoint b = eqb b 46 ≡ false

digit_unsigned : (b : ℕ) → digit_of b < 10 → NoSign b
digit_unsigned b h = let d = decimal_byte b h in (ne_eqb b 45 (λ e. omega arith), ne_eqb b 43 (λ e. omega arith))

pub digits_unsigned : (a r : List ℕ) → Figures 10 a → Begins NoSign r → Begins NoSign (a ++ r)
digits_unsigned [] r f h = h
digits_unsigned (b ∷ a) r f h = digit_unsigned b f.0

pub power_begins : {t : List ℕ} {k : ℤ} (P : ℕ → Type 0) → P 101 → P 69 → PowerText t k → Begins P t
power_begins P p q unpowered = tt
power_begins P p q (powered s d (inl e) g f low high) = rw e p
power_begins P p q (powered s d (inr e) g f low high) = rw e q

-- ---- a sign
pub sign_in_exact : {s : List ℕ} {n : Bool} (r : List ℕ) → SignText s n → Begins NoSign r → sign_in (s ++ r) ≡ signed n r
unfolding sign_in
sign_in_exact [] unsigned h = refl
sign_in_exact (b ∷ r) unsigned h = rw (h.0, h.1, sign_in)
sign_in_exact r plus h = refl
sign_in_exact r minus h = refl

pub record Signs (w : List ℕ) (g : Signed) : Type 0 where
  pub text : List ℕ
  pub signs : SignText text g.negative
  pub parted : w ≡ text ++ g.rest

pub sign_in_part : (w : List ℕ) → Signs w (sign_in w)
unfolding sign_in
sign_in_part [] = record { text = []; signs = unsigned; parted = refl }
sign_in_part (b ∷ w) =
    either (Signs (b ∷ w)) (eqb b 45) (λ p. record { text = 45 ∷ []; signs = minus; parted = ap (λ c. c ∷ w) (eqb-true b 45 p) })
    (λ _. either (Signs (b ∷ w)) (eqb b 43) (λ p. record { text = 43 ∷ []; signs = plus; parted = ap (λ c. c ∷ w) (eqb-true b 43 p) })
    (λ _. record { text = []; signs = unsigned; parted = refl }))

-- ---- a power
mark_is : (b : ℕ) → (b ≡ 101) ⊎ (b ≡ 69) → is_mark b ≡ true
mark_is b (inl e) = rw e
mark_is b (inr e) = rw e

pub is_mark_lem : (b : ℕ) → is_mark b ≡ true → (b ≡ 101) ⊎ (b ≡ 69)
is_mark_lem b = marked (eqb b 101) (eqb b 69) (eqb-true b 101) (eqb-true b 69)
  where
    marked : (p q : Bool) → (p ≡ true → b ≡ 101) → (q ≡ true → b ≡ 69) → (p || q) ≡ true → (b ≡ 101) ⊎ (b ≡ 69)
    marked true q f g e = inl (f refl)
    marked false q f g e = inr (g e)

pub power_of_exact : {t : List ℕ} {k : ℤ} → PowerText t k → power_of t ≡ Some k
unfolding power_of marked_of
power_of_exact unpowered = refl
power_of_exact (powered {e} s d m g f low high) =
    rw (mark_is e m, power_of, sign_in_exact d g (rw append-nil at (digits_unsigned d [] f tt)), whole_of_exact 10 3 d f low high)

record Powered (n : Bool) (x : Option ℕ) (k : ℤ) : Type 0 where
  pub tens : ℕ
  pub whole : x ≡ Some tens
  pub signs : sign_of n tens ≡ k

power_by_lem : (n : Bool) (x : Option ℕ) (k : ℤ) → power_by n x ≡ Some k → Powered n x k
power_by_lem n (Some v) k e = record { tens = v; whole = refl; signs = cc }
power_by_lem n None k e = absurd (let z : ◌≡◌ {A = ℕ} 0 1 = cc in omega arith)

marked_part : (b : ℕ) (w : List ℕ) (k : ℤ) → is_mark b ≡ true → marked_of w ≡ Some k → PowerText (b ∷ w) k
unfolding marked_of
marked_part b w k m e =
    let s = sign_in_part w in
    let p = power_by_lem (sign_in w).negative (whole_of 10 3 (sign_in w).rest) k e in
    let h = (whole_of_exactly 10 3 (sign_in w).rest p.tens).0 p.whole in
    let z : k ≡ sign_of (sign_in w).negative (worth 10 0 (sign_in w).rest) = sym p.signs ∙ ap (sign_of (sign_in w).negative) h.value in
    rw (z, ap (λ l. b ∷ l) s.parted) (powered s.text (sign_in w).rest (is_mark_lem b m) s.signs h.figures h.low h.high)

pub power_of_part : (r : List ℕ) (k : ℤ) → power_of r ≡ Some k → PowerText r k
unfolding power_of
power_of_part [] k e = let z : k ≡ pos 0 = cc in rw z unpowered
power_of_part (b ∷ w) k e =
    either (λ q. q ≡ Some k → PowerText (b ∷ w) k) (is_mark b) (λ m e. marked_part b w k m e)
    (λ _ e. absurd (let z : ◌≡◌ {A = ℕ} 0 1 = cc in omega arith)) e

-- and some bytes may stand behind the text
pub record Powers (r : List ℕ) (k : ℤ) (rest : List ℕ) : Type 0 where
  pub text : List ℕ
  pub parted : r ≡ text ++ rest
  pub powers : PowerText text k

pub power_of_all : (r : List ℕ) (k : ℤ) → power_of r ≡ Some k → Powers r k []
power_of_all r k e = record { text = r; parted = sym (append-nil r); powers = power_of_part r k e }

-- ---- digits behind a point
pub fraction_in_none : (v : ℕ) (r : List ℕ) → Begins NoPoint r → fraction_in v r ≡ digits v 0 r
unfolding fraction_in
fraction_in_none v [] h = refl
fraction_in_none v (b ∷ r) h = rw (h, fraction_in)

pub data Fraction (v : ℕ) : List ℕ → Digits → Type 0 where
  no_point : {r : List ℕ} → Fraction v r (digits v 0 r)
  a_point : {b : ℕ} {r : List ℕ} {d : Digits} → b ≡ 46 → Run 10 r v 0 d → Fraction v (b ∷ r) d

pub fraction_in_part : (v : ℕ) (r : List ℕ) → Fraction v r (fraction_in v r)
unfolding fraction_in
fraction_in_part v [] = no_point
fraction_in_part v (b ∷ r) = either (Fraction v (b ∷ r)) (eqb b 46) (λ p. a_point (eqb-true b 46 p) (digits_in_part 10 r v 0)) (λ _. no_point)
