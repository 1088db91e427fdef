-- Hexadecimal digits at the start of some bytes: the laws of the code. Assumes nothing.
use Prim.Native.Nat.{ℕ, ◌^◌, ◌≤◌, ◌<◌}
use native.Mathlib.Nat.{lt_of_lt_of_le, pow-le-pow_right}
use native.Mathlib.Omega.{arith}
use mathlib.Core.Path.{◌≡◌, sym, ap, subst, ◌∙◌}
use mathlib.Core.List.{List}
use borrow.Author.Tests.{le-leb, lt-leb}
use lib.Dec.{lit<}
use lib.ListN.{length, take, drop, length-append}
use lib.Seq.{take_all}
use Rattle.digits.specs.declared.group.Base.{Base}
use Rattle.digits.specs.declared.group.Group.{Group}
use Rattle.digits.specs.Lanes.{Laned, group_by, Grouped}
use Rattle.digits.specs.Digits.{digits_in}
use Rattle.digits.specs.Hexes.{hexes_of}
use Rattle.digits.proofs.Digits.{digits_in_below, digits_in_part}

module _ (w : List ℕ) where
  pub hexes_long : 8 < length w → record { value = 0; count = 0 } ≡ hexes_of w
  unfolding hexes_of
  hexes_long h = rw (lt-leb (length w) 8 h, hexes_of)

  -- the digits of all the bytes at once
  pub hexes_grouped : (x : ℕ) (g : Group) → length w ≤ 8 → Laned (take 8 (drop 0 w)) x → Grouped Base.Sixteen x g → g ≡ group_by (digits_in 16 0 0 w)
  hexes_grouped x g h l s =
      let e : take 8 (drop 0 w) ≡ w = take_all 8 w h in
      s.says w (subst (λ v. Laned v x) e l) h

  pub hexes_are : (g : Group) → length w ≤ 8 → g ≡ group_by (digits_in 16 0 0 w) → record { value = g.value; count = g.count } ≡ hexes_of w
  unfolding hexes_of
  hexes_are g h e = ap (λ (d : Group). record { value = d.value; count = d.count }) e ∙ rw (le-leb (length w) 8 h, hexes_of)

  pub hexes_small : (g : Group) → length w ≤ 8 → g ≡ group_by (digits_in 16 0 0 w) → g.value < 2 ^ 32
  hexes_small g h e =
      let r = digits_in_part 16 w 0 0 in
      let d = digits_in 16 0 0 w in
      let few : d.count ≤ 8 = omega (arith, h, r.count, ap length r.parted, length-append r.run d.rest) in
      subst (λ (v : ℕ). v < 2 ^ 32) (sym (ap (λ (d : Group). d.value) e)) (lt_of_lt_of_le (digits_in_below 16 w 0 0 (lit< tt)) (pow-le-pow_right (lit< tt) few))
