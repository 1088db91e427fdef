-- A whole coordinate word: what its parts, read one behind the other, say together. Assumes nothing.
use Rattle.std.specs.Prelude.{ℤ, Option, None}
use Prim.Native.Nat.{ℕ, ◌+◌, ◌^◌, ◌≤◌}
use native.Mathlib.Nat.{zero-mul}
use native.Mathlib.Omega.{arith}
use mathlib.Core.Path.{◌≡◌, refl, sym, ap, ◌∙◌}
use mathlib.Core.List.{List}
use mathlib.Core.Bool.{false}
use lib.Dec.{lit<}
use lib.ListN.{length, drop}
use Rattle.facts.proofs.Branch.{differ}
use Rattle.coordinates.specs.declared.sign.Sign.{Sign}
use Rattle.coordinates.specs.declared.scan.Scan.{Scan}
use Rattle.decimals.specs.declared.decimal.Decimal.{Decimal}
use Rattle.digits.specs.Digits.{digits_in}
use Rattle.decimals.specs.Coordinate.{Signed, sign_in, fraction_in, power_of, front_of, back_of, reading_of, kept, coordinate_of, keep_by}
use Rattle.coordinates.specs.Parts.{SignAt, Stands, scan, Shows, Scanned, Ready}
use Rattle.decimals.proofs.Readings.{short_is, no_digits, some_digits}

abbrev pub start : ℕ → Scan
start at = scan 0 0 false 0 at

start_stands : (at : ℕ) → Stands (start at) 0
start_stands at = record { less = lit< tt; room = λ _. refl; exact = λ _. sym (zero-mul (10 ^ 0)); wide = λ o. differ false o refl }

-- the digits behind a sign
pub digits_shown : (w : List ℕ) (at : ℕ) (s : Sign) → SignAt w at s → (x : Scan)
    → Scanned w (start s.next) x (λ v. digits_in 10 v 0 (drop s.next w)) → Shows w x (front_of (drop at w))
digits_shown w at s g x a = rw (ap (λ (x : Signed). digits_in 10 0 0 x.rest) g.says) at (a.shows 0 (start_stands s.next))

module _ (w : List ℕ) (l : length w ≤ 64) (s : Sign) (g : SignAt w 0 s) where
  module _ (front : Scan) (a : Scanned w (start s.next) front (λ v. digits_in 10 v 0 (drop s.next w))) where
    front_shows : Shows w front (front_of w)
    front_shows = digits_shown w 0 s g front a

    module _ (back : Scan) (b : Scanned w front back (λ v. fraction_in v (drop front.next w))) where
      pub back_shows : Shows w back (back_of w)
      back_shows = rw (ap (fraction_in (front_of w).value) front_shows.rest) at (b.shows (front_of w).value front_shows.value)

      pub back_ready : Ready back
      back_ready = record { less = back_shows.value.less; tail = omega (arith, b.fair); count = omega (arith, b.fair) }

      pub counts : front.count + back.count ≡ (front_of w).count + (back_of w).count
      counts = omega (arith, front_shows.count, back_shows.count)

      pub none_is : front.count + back.count ≡ 0 → None ≡ coordinate_of w
      unfolding reading_of
      none_is h = sym (ap kept (no_digits _ _ (back_of w) (power_of (back_of w).rest) (sym counts ∙ h))) ∙ short_is w l

      pub found_is : (front.count + back.count ≡ 0 → ⊥) → (p : Option ℤ) → p ≡ power_of (drop back.next w) → (r : Option Decimal)
          → ((v : ℕ) → Stands back v → r ≡ keep_by s.negative v back.count p) → r ≡ coordinate_of w
      unfolding reading_of
      found_is h p e r k =
          let n = ap (λ (x : Signed). x.negative) g.says in
          let q = e ∙ ap power_of back_shows.rest in
          let c = back_shows.count in
          k (back_of w).value back_shows.value
          ∙ rw (n, c, q) (sym (some_digits (sign_in w).negative (front_of w).count (back_of w) (power_of (back_of w).rest) (λ z. h (counts ∙ z))))
          ∙ short_is w l
