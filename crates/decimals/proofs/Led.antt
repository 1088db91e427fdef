-- What a lead says: the bytes before the place where it stops are a coordinate word with that pair, whatever follows. Assumes nothing.
use Rattle.std.specs.Prelude.{Option, Some}
use Rattle.decimals.specs.Coordinate.{decimal}
use Prim.Native.Nat.{ℕ, zero, suc, ◌+◌, ◌-◌, ◌≤◌, ◌<◌}
use native.Mathlib.Omega.{arith}
use mathlib.Core.Path.{◌≡◌, refl, sym, ap, ◌∙◌}
use mathlib.Core.Logic.{◌⊎◌, inl, inr}
use mathlib.Core.List.{List, [], ◌∷◌, ◌++◌, append_assoc}
use mathlib.Core.Bool.{Bool, true}
use borrow.Author.Tests.{le-leb, leb-true}
use lib.Dec.{leb}
use lib.IntN.{ℤ, pos}
use lib.ListN.{length, take, get_or, length-append}
use lib.Seq.{take-append_seam}
use Rattle.facts.proofs.Branch.{either}
use Rattle.decimals.specs.declared.decimal.Decimal.{Decimal}
use Rattle.facts.specs.declared.Taken.{Taken}
use Rattle.digits.specs.Digits.{within, Figures}
use Rattle.decimals.specs.Coordinate.{sign_of, sign_in, is_mark, Parts, Reading, is, none, reading_by, front_of, back_of, kept, coordinate_of}
use Rattle.decimals.specs.Value.{SignText, unsigned, plus, minus, PointText, plain, pointed, PowerText, unpowered, powered, Written}
use Rattle.decimals.specs.Lead.{is_part, Leading, tens_by, marked_in, power_in, tens_of, lead_of}
use Rattle.digits.proofs.Digits.{within_is, decimal_byte, digits_in_part, figures_left, figures_right}
use Rattle.decimals.proofs.Pieces.{is_mark_lem, sign_in_part, Powers}
use Rattle.decimals.proofs.Written.{read_is, begun, reading_of_exactly}
use Rattle.decimals.proofs.Exactly.{not_kept}
use Rattle.decimals.proofs.Readings.{short_is}

-- ---- the power
none_led : (r : List ℕ) (k : ℤ) → Some (pos 0) ≡ Some k → Powers r k r
none_led r k e = let z : k ≡ pos 0 = cc in record { text = []; parted = refl; powers = rw z unpowered }

marked_by : (b : ℕ) (w : List ℕ) → is_mark b ≡ true → within 1 3 (front_of w).count ≡ true
    → Powers (b ∷ w) (sign_of (sign_in w).negative (front_of w).value) (front_of w).rest
marked_by b w m t =
    let s = sign_in_part w in
    let d = digits_in_part 10 (sign_in w).rest 0 0 in
    let c = within_is 1 3 (front_of w).count t in
    record {
      text = b ∷ (s.text ++ d.run);
      parted = ap (λ l. b ∷ l) (s.parted ∙ ap (λ l. s.text ++ l) d.parted ∙ sym (append_assoc s.text d.run (front_of w).rest));
      powers =
          rw d.value
          (powered s.text d.run (is_mark_lem b m) s.signs d.figures (omega (arith, d.count, c)) (omega (arith, d.count, c)));
    }

marked_led : (b : ℕ) (w : List ℕ) (k : ℤ) → is_mark b ≡ true → tens_by (sign_in w).negative (front_of w) ≡ Some k
    → Powers (b ∷ w) k (front_of w).rest
marked_led b w k m =
    either (λ (x : Option ℤ). x ≡ Some k → Powers (b ∷ w) k (front_of w).rest) (within 1 3 (front_of w).count)
    (λ t e. let q : k ≡ sign_of (sign_in w).negative (front_of w).value = cc in rw q (marked_by b w m t))
    (λ _ e. absurd (let z : ◌≡◌ {A = ℕ} 0 1 = cc in omega arith))

power_in_part : (r : List ℕ) (k : ℤ) → (power_in r).power ≡ Some k → Powers r k (power_in r).rest
unfolding power_in marked_in
power_in_part [] k = none_led [] k
power_in_part (b ∷ w) k =
    either (λ (x : Leading). x.power ≡ Some k → Powers (b ∷ w) k x.rest) (is_mark b) (λ m e. marked_led b w k m e)
    (λ _ e. none_led (b ∷ w) k e)

-- ---- the bytes of a coordinate
-- each is one that it may have
abbrev pub Made : List ℕ → Type 0
Made [] = Unit
Made (b ∷ w) = (is_part b ≡ true) × Made w

made_append : (a b : List ℕ) → Made a → Made b → Made (a ++ b)
made_append [] b p q = q
made_append (c ∷ a) b p q = (p.0, made_append a b p.1 q)

figures_made : (w : List ℕ) → Figures 10 w → Made w
figures_made [] f = tt
figures_made (b ∷ w) f = let d = decimal_byte b f.0 in (rw (le-leb 48 b d.0, le-leb b 57 d.1), figures_made w f.1)

sign_made : {s : List ℕ} {n : Bool} → SignText s n → Made s
sign_made unsigned = tt
sign_made plus = (refl, tt)
sign_made minus = (refl, tt)

point_made : {t a b : List ℕ} → PointText t a b → Figures 10 (a ++ b) → Made t
point_made (plain {a}) f = figures_made a (figures_left 10 a [] f)
point_made (pointed {a} {b}) f =
    made_append a (46 ∷ b) (figures_made a (figures_left 10 a b f)) (refl, figures_made b (figures_right 10 a b f))

mark_part : (b : ℕ) → (b ≡ 101) ⊎ (b ≡ 69) → is_part b ≡ true
mark_part b (inl e) = rw e
mark_part b (inr e) = rw e

power_made : {t : List ℕ} {k : ℤ} → PowerText t k → Made t
power_made unpowered = tt
power_made (powered {e} s d m g f low high) = (mark_part e m, made_append s d (sign_made g) (figures_made d f))

written_made : (w : List ℕ) (p : Parts) → Written w p → Made w
written_made w p h =
    rw h.whole
    (made_append h.sign (h.text ++ h.power) (sign_made h.signs)
    (made_append h.text h.power (point_made h.points h.digits) (power_made h.powers)))

-- ---- at least one digit
point_long : {t a b : List ℕ} → PointText t a b → length a + length b ≤ length t
point_long plain = omega arith
point_long (pointed {a} {b}) = omega (arith, length-append a (46 ∷ b))

written_some : (w : List ℕ) (p : Parts) → Written w p → 1 ≤ length w
written_some w p h =
    omega (
      arith,
      h.some,
      point_long h.points,
      ap length h.whole,
      length-append h.sign (h.text ++ h.power),
      length-append h.text h.power,
    )

-- ---- the word that stops at n
pub record Led (w : List ℕ) (m e : ℤ) (n : ℕ) : Type 0 where
  pub word : List ℕ
  pub rest : List ℕ
  pub parted : w ≡ word ++ rest
  pub next : n ≡ length word
  pub some : 1 ≤ length word
  pub made : Made word
  pub says : coordinate_of word ≡ decimal m e

module _ (w : List ℕ) (m e : ℤ) where
  found : length w ≤ 64 → (r : Reading) → reading_by (sign_in w).negative (front_of w).count (back_of w) (tens_of w).power ≡ r → kept r ≡ decimal m e
      → Led w m e (length w - length (tens_of w).rest)
  found l none q h = not_kept m e h
  found l (is p) q h =
      let r = read_is (sign_in w).negative (front_of w).count (back_of w) (tens_of w).power p q in
      let b = begun w p r (power_in_part (back_of w).rest r.tens r.power) in
      let z = ap length b.parted ∙ length-append b.word (tens_of w).rest in
      record {
        word = b.word;
        rest = (tens_of w).rest;
        parted = b.parted;
        next = omega (arith, z);
        some = written_some b.word p b.written;
        made = written_made b.word p b.written;
        says = sym (short_is b.word (omega (arith, z))) ∙ ap kept ((reading_of_exactly b.word p).1 b.written) ∙ h;
      }

  pub led : (lead_of w).value ≡ decimal m e → Led w m e (lead_of w).next
  unfolding lead_of
  led =
      either (λ (x : Taken (Option Decimal)). x.value ≡ decimal m e → Led w m e x.next) (leb (length w) 64) (λ l h. found (leb-true _ _ l) _ refl h)
      (λ _ h. not_kept m e h)

  taken : (l : Led w m e (lead_of w).next) → take (lead_of w).next w ≡ l.word
  taken l = ap (λ n. take n w) l.next ∙ ap (take (length l.word)) l.parted ∙ take-append_seam l.word l.rest

  -- the bytes up to there are a word that is this coordinate
  pub lead_is : (lead_of w).value ≡ decimal m e → coordinate_of (take (lead_of w).next w) ≡ decimal m e
  lead_is h = ap coordinate_of (taken (led h)) ∙ (led h).says

  -- it is not empty, and inside the bytes
  pub lead_next : (lead_of w).value ≡ decimal m e → (1 ≤ (lead_of w).next) × ((lead_of w).next ≤ length w)
  lead_next h =
      let l = led h in
      let z = ap length l.parted ∙ length-append l.word l.rest in
      (omega (arith, l.next, l.some), omega (arith, l.next, z))

  -- and has only bytes that a coordinate may have
  pub lead_made : (lead_of w).value ≡ decimal m e → Made (take (lead_of w).next w)
  lead_made h = rw (taken (led h)) (led h).made

  pub lead_parts : (lead_of w).value ≡ decimal m e → (i : ℕ) → i < (lead_of w).next → is_part (get_or w i 0) ≡ true
  lead_parts h i b = let l = led h in rw l.parted (part_at l.word l.rest l.made i (omega (arith, l.next)))
    where
      part_at : (u r : List ℕ) → Made u → (i : ℕ) → i < length u → is_part (get_or (u ++ r) i 0) ≡ true
      part_at [] r p i b = absurd (omega arith)
      part_at (c ∷ u) r p zero b = p.0
      part_at (c ∷ u) r p (suc i) b = part_at u r p.1 i (omega arith)
