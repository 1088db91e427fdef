-- A canonical pair's text means that pair, and is a short word. Assumes nothing.
use Rattle.decimals.specs.Coordinate.{decimal}
use Prim.Native.Nat.{◌^◌, ◌≤◌, ◌<◌}
use native.Mathlib.Omega.{arith}
use mathlib.Core.Path.{◌≡◌, refl, ap, subst, ◌∙◌}
use mathlib.Core.Logic.{inl}
use mathlib.Core.List.{[], ◌∷◌, ◌++◌, append-nil, append_assoc}
use mathlib.Core.Bool.{Bool, true, false}
use borrow.Author.Tests.{leb-true}
use lib.IntN.{ℤ, pos, negsuc, nat_abs, +ℤ_idr}
use lib.ListN.{length, length-append}
use lib.Signed.{le_z}
use Rattle.digits.specs.Digits.{worth}
use Rattle.figures.specs.Figures.{figures}
use Rattle.figures.proofs.Figures.{figures_worth, figures_digits, figures_some, figures_few}
use Rattle.decimals.specs.Coordinate.{sign_of, parts_of, coordinate_of}
use Rattle.decimals.specs.Value.{SignText, unsigned, minus, plain, PowerText, powered, Canonical, Means}
use Rattle.decimals.proofs.Scaled.{same_refl}
use Rattle.decimals.proofs.Exactly.{coordinate_of_exactly}
use Rattle.figures.specs.Signed.{sign_text, decimal_text, coordinate_text}

abbrev below : ℤ → Bool
below (pos n) = false
below (negsuc n) = true

sign_text_lem : (z : ℤ) → SignText (sign_text z) (below z)
sign_text_lem (pos n) = unsigned
sign_text_lem (negsuc n) = minus

sign_back : (z : ℤ) → sign_of (below z) (nat_abs z) ≡ z
sign_back (pos n) = refl
sign_back (negsuc n) = refl

sign_short : (z : ℤ) → length (sign_text z) ≤ 1
sign_short (pos n) = omega arith
sign_short (negsuc n) = omega arith

tens_short : (e : ℤ) → le_z (negsuc 399) e ≡ true → le_z e (pos 400) ≡ true → nat_abs e < 10 ^ 3
tens_short (pos n) l h = omega (arith, leb-true n 400 h)
tens_short (negsuc n) l h = omega (arith, leb-true n 399 l)

worth_back : (z : ℤ) → sign_of (below z) (worth 10 0 (figures 10 (nat_abs z))) ≡ z
worth_back z = ap (sign_of (below z)) (figures_worth 10 (omega arith) (omega arith) (nat_abs z)) ∙ sign_back z

module _ (m e : ℤ) (c : Canonical m e) where
  few : nat_abs e < 10 ^ 3
  few = tens_short e c.low c.high

  power : PowerText (101 ∷ (sign_text e ++ figures 10 (nat_abs e))) e
  power =
      subst (PowerText (101 ∷ (sign_text e ++ figures 10 (nat_abs e)))) (worth_back e)
      (powered (sign_text e) (figures 10 (nat_abs e)) (inl refl) (sign_text_lem e) (figures_digits 10 (omega arith) (omega arith) (nat_abs e)) (figures_some 10 (omega arith) (omega arith) (nat_abs e)) (figures_few 10 (omega arith) (omega arith) (nat_abs e) 2 few))

  pub text_short : length (coordinate_text m e) ≤ 24
  unfolding coordinate_text decimal_text
  text_short =
      omega (
        arith,
        length-append (sign_text m ++ figures 10 (nat_abs m)) (101 ∷ (sign_text e ++ figures 10 (nat_abs e))),
        length-append (sign_text m) (figures 10 (nat_abs m)),
        length-append (sign_text e) (figures 10 (nat_abs e)),
        sign_short m,
        sign_short e,
        figures_few 10 (omega arith) (omega arith) (nat_abs m) 17 c.few,
        figures_few 10 (omega arith) (omega arith) (nat_abs e) 2 few,
      )

  -- the law
  pub text_means : Means (coordinate_text m e) m e
  unfolding coordinate_text decimal_text
  text_means =
      let d = figures 10 (nat_abs m) in
      record {
        short = omega (arith, text_short);
        parts = parts_of (below m) (worth 10 0 d) 0 e;
        written = record {
          sign = sign_text m;
          text = d;
          power = 101 ∷ (sign_text e ++ figures 10 (nat_abs e));
          before = d;
          behind = [];
          negative = below m;
          tens = e;
          whole = append_assoc (sign_text m) d (101 ∷ (sign_text e ++ figures 10 (nat_abs e)));
          signs = sign_text_lem m;
          points = plain;
          powers = power;
          digits = rw append-nil (figures_digits 10 (omega arith) (omega arith) (nat_abs m));
          some = omega (arith, figures_some 10 (omega arith) (omega arith) (nat_abs m));
          says = rw append-nil;
        };
        value = rw (worth_back m, +ℤ_idr e) (same_refl m e);
        canonical = c;
      }

  pub text_back : coordinate_of (coordinate_text m e) ≡ decimal m e
  text_back = (coordinate_of_exactly (coordinate_text m e) m e).1 text_means
