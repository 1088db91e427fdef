-- What stands first behind a place of a list. Assumes nothing.
use Prim.Native.Nat.{ℕ, ◌+◌, ◌<◌}
use native.Mathlib.Omega.{arith}
use mathlib.Core.Path.{◌≡◌, sym, ap, ◌∙◌}
use mathlib.Core.List.{List, ◌∷◌}
use lib.ListN.{length, drop, get_or, length-drop}
use lib.Seq.{drop-drop, get_or-drop}

module _ (s : List ℕ) (i b : ℕ) (rest : List ℕ) (here : drop i s ≡ b ∷ rest) where
  pub first_inside : i < length s
  first_inside = omega (arith, ap length here, length-drop i s)

  pub first_is : get_or s i 0 ≡ b
  first_is = (let k : i + 0 ≡ i = omega arith in ap (λ (j : ℕ). get_or s j 0) (sym k)) ∙ sym (get_or-drop i s 0 0) ∙ ap (λ l. get_or l 0 0) here

  pub first_behind : drop (i + 1) s ≡ rest
  first_behind = sym (drop-drop 1 i s) ∙ ap (drop 1) here
