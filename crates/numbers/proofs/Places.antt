-- Digits by places: what the code that stands at a place of a word needs of their definition. Assumes nothing.
use Prim.Native.Nat.{ℕ, ◌+◌, ◌*◌, ◌≤◌, ◌<◌}
use native.Mathlib.Numerals.{add-one}
use mathlib.Core.Path.{◌≡◌}
use mathlib.Core.List.{List}
use borrow.Author.Tests.{lt-ltb, le-ltb}
use lib.ListN.{length, drop, get_or, drop_of_length-le}
use lib.Seq.{drop-cons}
use Rattle.digits.specs.Digits.{digit_of, digits, digits_in}

module _ (w : List ℕ) (at base v n : ℕ) where
  pub digits_in_more : (d : ℕ) → at < length w → d ≡ digit_of (get_or w at 0) → d < base
      → digits_in base (v * base + d) (n + 1) (drop (at + 1) w) ≡ digits_in base v n (drop at w)
  unfolding digits_in
  digits_in_more d h e t = rw (e, drop-cons w at 0 h, add-one at, add-one n, lt-ltb _ base (rw e at t), digits_in)

  pub digits_in_stop : (d : ℕ) → at < length w → d ≡ digit_of (get_or w at 0) → base ≤ d → digits v n (drop at w) ≡ digits_in base v n (drop at w)
  unfolding digits_in
  digits_in_stop d h e t = rw (drop-cons w at 0 h, ← e, le-ltb d base t, digits_in)

  pub digits_in_past : length w ≤ at → digits v n (drop at w) ≡ digits_in base v n (drop at w)
  unfolding digits_in
  digits_in_past h = rw (drop_of_length-le w h)
