-- The values of one list at the start of another, as far as both reach. Assumes nothing.
use Prim.Native.Nat.{ℕ, ◌+◌, min}
use native.Mathlib.Omega.{arith}
use mathlib.Core.Path.{◌≡◌, sym, ap, ◌∙◌}
use mathlib.Core.List.{List, ◌++◌}
use borrow.Author.Tests.{leb-true, leb-false}
use lib.Dec.{leb}
use lib.ListN.{length, take, drop, take-append-drop, drop_of_length-le}
use lib.Seq.{sets, length-sets, length-take-le, sets-eq}
use Rattle.facts.proofs.Branch.{split}
use Rattle.facts.proofs.Sets.{sets_append, sets_out}

module _ {A : Type 0} (from to : List A) (n : ℕ) where
  -- what is past either's end changes nothing
  rest : (old : List A) → length old ≡ length to → n ≡ min (length from) (length to) → sets old n (drop n from) ≡ old
  rest old l e =
      split (leb (length from) n)
      (λ p. let q = leb-true _ _ p in ap (λ (y : List A). sets old n y) (drop_of_length-le from q))
      (λ p. let q = leb-false _ _ p in sets_out (drop n from) old n (omega arith))

  pub copied : n ≡ min (length from) (length to) → take n from ++ drop n to ≡ sets to 0 from
  copied e =
      let long : length (take n from) ≡ n = length-take-le n from (omega arith) in
      let seam : 0 + length (take n from) ≡ n = omega arith in
      let start : take n from ++ drop n to ≡ sets to 0 (take n from) = sym (sets-eq (take n from) to 0 (omega arith) ∙ ap (λ (k : ℕ). take n from ++ drop k to) seam) in
      let more : sets to 0 (take n from) ≡ sets (sets to 0 (take n from)) (0 + length (take n from)) (drop n from) =
      sym (ap (λ (k : ℕ). sets (sets to 0 (take n from)) k (drop n from)) seam ∙ rest (sets to 0 (take n from)) (length-sets to 0 (take n from)) e) in
      start ∙ more ∙ sets_append (take n from) (drop n from) to 0 ∙ ap (λ (y : List A). sets to 0 y) (take-append-drop n from)
