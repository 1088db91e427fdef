-- The part `&mut s[a..]`: what is lent is `drop a s`, and what comes back stands behind `take a s`. Assumes nothing.
use Prim.Native.Nat.{ℕ, ◌-◌}
use native.Mathlib.Omega.{arith}
use mathlib.Core.Path.{◌≡◌}
use mathlib.Core.List.{List, [], ◌++◌, append-nil}
use borrow.Rule.Slice.PartMut.{mid_of, post_of, put_mid}
use lib.ListN.{length, take, drop, length-drop, drop_of_length-le}
use lib.Seq.{take_all}

module _ {X : Type 0} (a : ℕ) (xs : List X) where
  pub tail_mid : mid_of a (length xs - a) xs ≡ drop a xs
  tail_mid = take_all (length xs - a) (drop a xs) (simp length-drop (omega arith))

  pub tail_put : (ys : List X) → put_mid a (length xs - a) xs ys ≡ take a xs ++ ys
  tail_put ys =
      let e : post_of a (length xs - a) xs ≡ [] = drop_of_length-le (drop a xs) {i = length xs - a} (simp length-drop (omega arith)) in
      rw (e, append-nil)
