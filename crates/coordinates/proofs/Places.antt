-- The parts of a word by places: what the code that stands at a place of the word needs of the definitions. Assumes nothing.
use Rattle.std.specs.Prelude.{Some, None}
use Prim.Native.Nat.{ℕ, ◌+◌, ◌≤◌, ◌<◌}
use native.Mathlib.Numerals.{add-one}
use native.Mathlib.Omega.{arith}
use mathlib.Core.Path.{◌≡◌, refl, sym, ◌∙◌}
use mathlib.Core.List.{List, [], ◌∷◌}
use mathlib.Core.Bool.{true, false}
use borrow.Author.Tests.{ltb-true, ltb-false}
use lib.Dec.{ltb, eqb}
use lib.IntN.{pos}
use lib.ListN.{length, drop, get_or, drop_of_length-le}
use lib.Seq.{drop-cons}
use Rattle.facts.proofs.Branch.{split, differ}
use Rattle.coordinates.specs.declared.scan.Scan.{Scan}
use Rattle.digits.specs.Digits.{digits_in}
use Rattle.decimals.specs.Coordinate.{sign_in, fraction_in, is_mark, marked_of, power_of}
use Rattle.decimals.specs.Value.{unsigned}
use Rattle.coordinates.specs.Parts.{starts, SignAt, Stands, scan, Fair, Scanned}
use Rattle.digits.proofs.Digits.{Begins}
use Rattle.decimals.proofs.Pieces.{NoSign, NoPoint, sign_in_exact, fraction_in_none}

neither : (l : List ℕ) → starts 45 l ≡ false → starts 43 l ≡ false → Begins NoSign l
unfolding starts
neither [] n p = tt
neither (b ∷ l) n p = (n, p)

pub not_point : (l : List ℕ) → starts 46 l ≡ false → Begins NoPoint l
unfolding starts
not_point [] n = tt
not_point (b ∷ l) n = n

module _ (w : List ℕ) (at : ℕ) where
  pub starts_here : (b : ℕ) → at < length w → eqb (get_or w at 0) b ≡ starts b (drop at w)
  unfolding starts
  starts_here b h = rw (drop-cons w at 0 h)

  pub starts_past : (b : ℕ) → length w ≤ at → false ≡ starts b (drop at w)
  unfolding starts
  starts_past b h = rw (drop_of_length-le w h)

  -- ---- one byte
  within : (b : ℕ) → starts b (drop at w) ≡ true → at < length w
  within b t = split (ltb at (length w)) (λ p. ltb-true _ _ p) (λ p. differ (starts b (drop at w)) t (sym (starts_past b (ltb-false _ _ p))))

  byte_is : (b : ℕ) → starts b (drop at w) ≡ true → eqb (get_or w at 0) b ≡ true
  byte_is b t = starts_here b (within b t) ∙ t

  -- ---- a sign
  pub sign_minus : starts 45 (drop at w) ≡ true → SignAt w at (record { negative = true; next = at + 1 })
  unfolding sign_in
  sign_minus t =
      let h = within 45 t in
      record { says = rw (drop-cons w at 0 h, add-one at, byte_is 45 t, sign_in); within = omega arith }

  pub sign_plus : starts 45 (drop at w) ≡ false → starts 43 (drop at w) ≡ true → SignAt w at (record { negative = false; next = at + 1 })
  unfolding sign_in
  sign_plus n t =
      let h = within 43 t in
      record { says = rw (drop-cons w at 0 h, add-one at, starts_here 45 h ∙ n, byte_is 43 t, sign_in); within = omega arith }

  pub sign_none : at ≤ length w → starts 45 (drop at w) ≡ false → starts 43 (drop at w) ≡ false
      → SignAt w at (record { negative = false; next = at })
  sign_none l n p = record { says = sym (sign_in_exact (drop at w) unsigned (neither (drop at w) n p)); within = l }

  -- ---- a point
  pub point_here : (v : ℕ) → starts 46 (drop at w) ≡ true → digits_in 10 v 0 (drop (at + 1) w) ≡ fraction_in v (drop at w)
  unfolding fraction_in
  point_here v t = rw (drop-cons w at 0 (within 46 t), add-one at, byte_is 46 t, fraction_in)

  -- ---- a power
  pub power_none : length w ≤ at → Some (pos 0) ≡ power_of (drop at w)
  unfolding power_of
  power_none h = rw (drop_of_length-le w h)

  pub power_marked : at < length w → is_mark (get_or w at 0) ≡ true → marked_of (drop (at + 1) w) ≡ power_of (drop at w)
  unfolding power_of
  power_marked h t = rw (drop-cons w at 0 h, add-one at, t, power_of)

  pub power_bad : at < length w → is_mark (get_or w at 0) ≡ false → None ≡ power_of (drop at w)
  unfolding power_of
  power_bad h t = rw (drop-cons w at 0 h, t, power_of)

-- ---- the digits behind the point
abbrev behind : Scan → ℕ → Scan
behind x n = scan x.m x.tail x.over 0 n

behind_stands : (x : Scan) (n v : ℕ) → Stands x v → Stands (behind x n) v
behind_stands x n v h = record { less = h.less; room = h.room; exact = h.exact; wide = h.wide }

module _ (w : List ℕ) (x : Scan) (f : Fair w x) where
  pub point_fair : starts 46 (drop x.next w) ≡ true → Fair w (behind x (x.next + 1))
  point_fair t = let h = within w x.next 46 t in record { short = f.short; within = omega arith; tail = omega (arith, f.tail); count = omega arith }

  pub point_scanned : starts 46 (drop x.next w) ≡ true → (r : Scan)
      → Scanned w (behind x (x.next + 1)) r (λ v. digits_in 10 v 0 (drop (x.next + 1) w))
      → Scanned w x r (λ v. fraction_in v (drop x.next w))
  point_scanned t r g =
      record { fair = g.fair; shows = λ v h. rw (sym (point_here w x.next v t)) (g.shows v (behind_stands x _ v h)) }

  pub plain_scanned : starts 46 (drop x.next w) ≡ false → Scanned w x (behind x x.next) (λ v. fraction_in v (drop x.next w))
  plain_scanned n =
      record {
        fair = record { short = f.short; within = f.within; tail = f.tail; count = omega arith };
        shows = λ v h.
            rw (fraction_in_none v (drop x.next w) (not_point (drop x.next w) n))
            (record { value = behind_stands x _ v h; count = refl; rest = refl });
      }

-- what `power_at` finds
pub ruleset powers = (power_none, power_marked, power_bad)
