-- Two words found together are the word there and the word behind it. Assumes nothing.
use Prim.Native.Nat.{ℕ, ◌+◌, ◌-◌, ◌^◌, ◌≤◌, ◌<◌}
use native.Mathlib.Nat.{lt_of_lt_of_le, pow-le-pow_right}
use native.Mathlib.Omega.{arith}
use mathlib.Core.Path.{◌≡◌, refl, sym, ap, subst, ◌∙◌}
use mathlib.Core.List.{List, ◌++◌}
use Rattle.std.specs.Prelude.{Option, Some, None}
use mathlib.Core.Bool.{true, false}
use borrow.Author.Tests.{le-leb, lt-leb}
use lib.Dec.{lit<}
use lib.ListN.{length, take, drop, get_or, length-take, length-drop}
use lib.Seq.{length-take-le, take-add, drop_at, drop-drop}
use Rattle.facts.proofs.Branch.{either}
use Rattle.tokens.specs.Tokens.{is_blank}
use Rattle.digits.specs.declared.couple.Couple.{Couple}
use Rattle.digits.specs.declared.quick.Hexes.{Hexes}
use Rattle.digits.specs.Digits.{digits_in}
use Rattle.digits.specs.Hexes.{hexes_of}
use Rattle.digits.specs.Lanes.{Laned}
use Rattle.digits.specs.Couples.{couple_of}
use Rattle.digits.proofs.Digits.{digits_in_within, digits_in_below}
use Rattle.digits.proofs.Coupling.{Coupled, CoupledBy, couple_says}
use Rattle.twos.specs.declared.Two.{Two}
use Rattle.quick.specs.Quick.{hexes_from, known_of}
use Rattle.twos.specs.Twos.{two_by, two_of, Inside, TwoSays, TwoAt}
use Rattle.quick.proofs.Near.{near_starts}
use Rattle.quick.proofs.Knowing.{known_from}

-- ---- no two
module _ (s : List ℕ) (at : ℕ) where
  none_at : None ≡ two_of s at → TwoAt s at None
  none_at e = record { same = e; says = tt }

  pub two_short : length s < at + 9 → TwoAt s at None
  unfolding two_of
  two_short l = none_at (rw (lt-leb (at + 9) (length s) l, two_of) refl)

  pub two_solid : at + 9 ≤ length s → is_blank (get_or s at 0) ≡ false → TwoAt s at None
  unfolding two_of
  two_solid l b = none_at (rw (le-leb (at + 9) (length s) l, b, two_of) refl)

-- ---- the digits at a place
hexes_by_lem : (w : List ℕ) (v n : ℕ) → length w ≤ 8 → (digits_in 16 0 0 w).value ≡ v → (digits_in 16 0 0 w).count ≡ n → record { value = v; count = n } ≡ hexes_of w
unfolding hexes_of
hexes_by_lem w v n h p q = (λ i. record { value = sym p i; count = sym q i }) ∙ rw (le-leb (length w) 8 h, hexes_of)

module _ (s : List ℕ) (at : ℕ) (l : at + 9 ≤ length s) where
  abbrev w : List ℕ
  w = take 8 (drop (at + 1) s)

  eight : length w ≡ 8
  eight = length-take-le 8 (drop (at + 1) s) (omega (arith, l, length-drop (at + 1) s))

  module _ (f v g e : ℕ) (c : Coupled w f v g e) where
    abbrev mid : ℕ
    mid = at + 1 + g

    small : (u : List ℕ) (k : ℕ) → (digits_in 16 0 0 u).count ≡ k → k ≤ 8 → (digits_in 16 0 0 u).value < 2 ^ 32
    small u k h m = let few : (digits_in 16 0 0 u).count ≤ 8 = omega (arith, h, m) in lt_of_lt_of_le (digits_in_below 16 u 0 0 (lit< tt)) (pow-le-pow_right (lit< tt) few)

    couple_inside : Inside s (at + 1) (record { first = f; second = v; gap = g; end = e })
    couple_inside = (
      omega (arith, l),
      omega (arith, c.more, c.few),
      c.few,
      subst (λ (y : ℕ). y < 2 ^ 32) c.first (small w g c.gap (omega (arith, c.more, c.few))),
      subst (λ (y : ℕ). y < 2 ^ 32) c.second (small (drop (g + 1) w) (e - (g + 1)) (omega (arith, c.end)) (omega (arith, c.few))),
    )

    -- the first word
    first_hexes : record { value = f; count = g } ≡ hexes_from s (at + 1)
    unfolding hexes_from
    first_hexes = hexes_by_lem w f g (omega (arith, eight)) c.first c.gap

    known_first : is_blank (get_or s at 0) ≡ true → known_of s at ≡ record { value = f; next = mid }
    known_first b =
        let some : 1 ≤ (hexes_from s (at + 1)).count = subst (λ (y : Hexes). 1 ≤ y.count) first_hexes c.some in
        sym (known_from s at (at + 1) (record { value = f; count = g }) (near_starts s at (omega (arith, l)) b some) first_hexes)

    -- the second: what is left of the eight bytes is the start of the eight bytes there
    abbrev rest : List ℕ
    rest = drop (mid + 1) s

    dropped : drop (g + 1) w ≡ take (7 - g) rest
    dropped =
        let all = drop (at + 1) s in
        let k : 8 ≡ g + 1 + (7 - g) = omega (arith, c.more, c.few) in
        let m : at + 1 + (g + 1) ≡ mid + 1 = omega arith in
        ap (λ (n : ℕ). drop (g + 1) (take n all)) k ∙ ap (drop (g + 1)) (take-add (g + 1) (7 - g) all)
        ∙ drop_at (take (g + 1) all) (take (7 - g) (drop (g + 1) all)) (g + 1) (length-take-le (g + 1) all (omega (arith, l, c.more, c.few, length-drop (at + 1) s)))
        ∙ ap (take (7 - g)) (drop-drop (g + 1) (at + 1) s ∙ ap (λ (n : ℕ). drop n s) m)

    parted : take 8 rest ≡ drop (g + 1) w ++ take (g + 1) (drop (7 - g) rest)
    parted =
        let k : 8 ≡ 7 - g + (g + 1) = omega (arith, c.more, c.few) in
        ap (λ (m : ℕ). take m rest) k ∙ take-add (7 - g) (g + 1) rest ∙ ap (λ l. l ++ take (g + 1) (drop (7 - g) rest)) (sym dropped)

    second_hexes : record { value = v; count = e - (g + 1) } ≡ hexes_from s (mid + 1)
    unfolding hexes_from
    second_hexes =
        let u = drop (g + 1) w in
        let t = take (g + 1) (drop (7 - g) rest) in
        let long : length u ≡ 7 - g = length-drop (g + 1) w ∙ omega (arith, eight) in
        let same = digits_in_within 16 u t 0 0 (omega (arith, c.end, c.few, long)) in
        hexes_by_lem (take 8 rest) v (e - (g + 1)) (omega (arith, length-take 8 rest))
        (ap (λ l. (digits_in 16 0 0 l).value) parted ∙ same.0 ∙ c.second) (ap (λ l. (digits_in 16 0 0 l).count) parted ∙ same.1 ∙ omega (arith, c.end))

    known_second : is_blank (get_or s mid 0) ≡ true → known_of s mid ≡ record { value = v; next = at + 1 + e }
    known_second b =
        let some : 1 ≤ (hexes_from s (mid + 1)).count = subst (λ (y : Hexes). 1 ≤ y.count) second_hexes (omega (arith, c.more)) in
        let n : mid + 1 + (e - (g + 1)) ≡ at + 1 + e = omega (arith, c.more) in
        sym (known_from s mid (mid + 1) (record { value = v; count = e - (g + 1) }) (near_starts s mid (omega (arith, l, c.more, c.few)) b some) second_hexes)
        ∙ ap (λ (k : ℕ). record { value = v; next = k }) n

  module _ (b : is_blank (get_or s at 0) ≡ true) where
    by_couple : (c : Option Couple) → CoupledBy w c → TwoSays s at (two_by s (at + 1) c)
    by_couple (Some c) p =
        either (TwoSays s at) (is_blank (get_or s (at + 1 + c.gap) 0))
        (λ q. (at + 1 + c.gap, known_first c.first c.second c.gap c.end p b, known_second c.first c.second c.gap c.end p q)) (λ _. tt)
    by_couple None p = tt

    module _ (x : ℕ) (h : Laned w x) (o : Option Couple) (k : o ≡ couple_of x) where
      couple_found : CoupledBy w o
      couple_found = subst (CoupledBy w) (sym k) (couple_says w x h eight)

      pub two_inside : (c : Couple) → o ≡ Some c → Inside s (at + 1) c
      two_inside c e = couple_inside c.first c.second c.gap c.end (subst (CoupledBy w) e couple_found)

      pub two_found : (r : Option Two) → r ≡ two_by s (at + 1) o → TwoAt s at r
      unfolding two_of
      two_found r e =
          record {
            same = e ∙ ap (λ (y : Option Couple). two_by s (at + 1) y) (k ∙ ap couple_of h.same) ∙ rw (le-leb (at + 9) (length s) l, b, two_of) refl;
            says = subst (TwoSays s at) (sym e) (by_couple o couple_found);
          }
